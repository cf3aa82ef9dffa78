pub mod Numbers
pub mod Replies
pub mod Views
pub mod PairsGiven
pub mod SpansNumbers
pub mod Tokens
