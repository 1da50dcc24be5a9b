-- The definitions that the theorems of `theory` cite, and the theorems' statements.
pub mod Points
pub mod Rates
pub mod Turning
pub mod Slopes
pub mod Pairs
pub mod Offsets
pub mod Theorems
