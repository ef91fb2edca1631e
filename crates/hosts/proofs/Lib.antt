pub mod AtMost
pub mod ArcRule
pub mod Quarters
