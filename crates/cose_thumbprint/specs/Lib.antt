pub mod Thumbprint
pub mod Views
pub mod ThumbprintLaws
pub mod Texts
