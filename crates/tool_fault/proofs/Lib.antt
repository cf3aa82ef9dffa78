pub mod Faults
pub mod Leading
pub mod Members
pub mod Standing
