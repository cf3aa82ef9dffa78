pub mod VerifyFor
pub mod Possession
