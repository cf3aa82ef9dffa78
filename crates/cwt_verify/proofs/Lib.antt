mod Agreeing
mod Among
pub mod Critical
mod Directing
mod Innermost
mod Judging
mod Labels
mod Missing
pub mod Opened
mod PairTests
mod Reading
mod Receiving
mod Trying
mod TypeNames
mod Walking
