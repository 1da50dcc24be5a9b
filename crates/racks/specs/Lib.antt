pub mod Bounds
pub mod Flips
pub mod Shifts
pub mod Racks
pub mod Records
pub mod Packs
pub mod RackLaws
