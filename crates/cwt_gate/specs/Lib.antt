pub mod Token
pub mod Moment
pub mod Gate
pub mod Texts
