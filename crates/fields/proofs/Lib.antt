-- Lemmas of the fields crate, by topic.
pub mod Cuts
pub mod Numerals
