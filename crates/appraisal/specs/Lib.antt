pub mod Readings
pub mod Answers
pub mod Judging
pub mod Text
pub mod Deciding
pub mod Planning
pub mod Finding
