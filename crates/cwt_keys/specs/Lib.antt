pub mod Keys
pub mod Sealed
pub mod Table
