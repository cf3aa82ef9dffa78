pub mod Fits
pub mod Opened
pub mod Rules
pub mod Texts
pub mod Tokens
pub mod Waiting
pub mod Written
