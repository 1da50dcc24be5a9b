-- The lemmas of `lines` that other crates may cite too.
pub mod Ring
pub mod Order
pub mod Sums
pub mod Cost
pub mod Lowest
pub mod Sizes
pub mod Ghosts
pub mod Quotients
pub mod Laying
pub mod Sides
pub mod Shares
pub mod Abouts
