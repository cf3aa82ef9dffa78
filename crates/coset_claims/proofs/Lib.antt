pub mod ClaimPutting
pub mod ClaimWriting
pub mod ClaimCopies
pub mod Elements
pub mod ByteStrings
pub mod ClaimSplitting
pub mod OnlyClaims
mod Comparing
mod Months
mod Years
mod WrittenMoments
mod Received
