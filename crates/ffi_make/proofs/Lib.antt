pub mod Making
pub mod Lists
pub mod Naming
pub mod Agreeing
pub mod Keeping
pub mod Putting
