pub mod Members
pub mod KeyMembers
pub mod Concealed
pub mod Encrypted
pub mod Confirm
pub mod Nonces
pub mod Texts
