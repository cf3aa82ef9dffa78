pub mod MacStructure
pub mod EncStructure
pub mod Presence
pub mod Mac0
pub mod Encrypt0
pub mod Equality
