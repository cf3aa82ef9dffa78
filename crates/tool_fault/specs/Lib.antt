pub mod Alike
pub mod Called
pub mod Headers
pub mod Places
pub mod Registries
pub mod Steps
