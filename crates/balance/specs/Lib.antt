-- The definitions that the contracts of `balance` cite, and the laws that its ghost members hold.
pub mod Orders
pub mod OrderLaws
pub mod Balances
pub mod Brackets
pub mod Levels
