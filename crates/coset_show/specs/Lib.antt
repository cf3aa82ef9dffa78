pub mod Refusal
pub mod Show
pub mod Kind
pub mod Stream
pub mod Answer
pub mod Arguments
