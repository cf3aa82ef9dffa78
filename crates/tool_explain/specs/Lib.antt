pub mod Column
pub mod Kind
pub mod Refusal
pub mod Structure
