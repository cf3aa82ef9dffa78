pub mod SignatureStructure
pub mod Countersigned
pub mod Signed
pub mod Sign1
pub mod Sign
pub mod Same
