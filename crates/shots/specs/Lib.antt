pub mod Refusals
pub mod Ranges
pub mod Shots
pub mod Images
pub mod Prices
pub mod PriceLaws
