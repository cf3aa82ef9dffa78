pub mod Reading
pub mod Writing
pub mod Lists
pub mod Written
mod Contexts
