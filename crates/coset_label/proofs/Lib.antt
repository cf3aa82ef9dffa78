pub mod Numbers
pub mod Encodings
pub mod Copies
pub mod Memory
pub mod Apart
