pub mod Counts
pub mod Table
