pub mod Orders
pub mod Search
