pub mod Doubles
pub mod Lengths
