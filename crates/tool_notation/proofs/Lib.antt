pub mod Heads
pub mod Steps
