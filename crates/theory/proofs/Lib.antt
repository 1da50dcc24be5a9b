-- The proofs of the theorems, by topic, each citing only those above it.
pub mod Least
pub mod Members
pub mod Subgradient
pub mod Cone
pub mod Rates
pub mod Cheapest
pub mod Keys
pub mod Slopes
pub mod Through
pub mod Turning
pub mod Descent
pub mod Pairs
pub mod Offsets
