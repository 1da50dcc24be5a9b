-- The definitions that the contracts of `cases` cite.
pub mod Examples
pub mod Table
pub mod Sample
pub mod Hands
