-- What the contracts of the fields crate cite.
pub mod Digits
pub mod Fields
pub mod Numbers
pub mod Tokens
pub mod Written
