pub mod Turns
pub mod Slipping
pub mod Living
