pub mod Replying
pub mod Pairing
