-- The lemmas of `balance` that other crates may cite too.
pub mod Orders
pub mod Sums
pub mod Sides
pub mod Weighing
pub mod Counting
pub mod Picking
pub mod Greatest
pub mod Closing
pub mod Medians
pub mod Levels
