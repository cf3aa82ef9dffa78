pub mod Base64Steps
pub mod Characters
pub mod Commented
pub mod Dumps
pub mod Groups
pub mod Numbers
pub mod Parts
pub mod PieceSteps
