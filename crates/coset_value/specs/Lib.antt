pub mod Item
pub mod Number
pub mod Parts
pub mod Range
pub mod Same
pub mod SameLaws
pub mod View
pub mod ViewLaws
