-- The definitions that the contracts of `lines` cite, and the laws that its ghost members hold.
pub mod Divisors
pub mod Slopes
pub mod Lines
pub mod Through
pub mod Sides
pub mod Costs
pub mod Priced
pub mod Sums
pub mod About
pub mod Texts
pub mod SlopeOrder
pub mod LowestTerms
pub mod SlopeLaws
