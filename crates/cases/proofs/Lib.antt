-- The proofs of the worked examples and of the sample life.
pub mod Each
pub mod Testing
pub mod Adding
pub mod FiveShots
pub mod OneSpeed
pub mod SampleLife
pub mod CodeLife
pub mod Calling
pub mod Worked
