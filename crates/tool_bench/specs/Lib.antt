pub mod Operation
pub mod Figure
