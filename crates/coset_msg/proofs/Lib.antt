pub mod Present
pub mod Written
mod Received
