pub mod Sheets
pub mod Living
