pub mod Reading
pub mod Parcel
pub mod Report
pub mod Settings
