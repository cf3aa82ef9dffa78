pub mod Seals
pub mod Verdicts
