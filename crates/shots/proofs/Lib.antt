pub mod Same
pub mod Images
pub mod Tables
