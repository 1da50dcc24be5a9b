pub mod Steps
pub mod Shifts
pub mod Stores
pub mod Packs
pub mod Flips
pub mod Emptiness
pub mod Going
