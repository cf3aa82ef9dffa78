pub mod Signatures
mod Written
pub mod Received
pub mod Countersigned
pub mod Copied
pub mod Calling
