pub mod Meaning
pub mod Turns
pub mod Length
pub mod Circle
pub mod Arc
pub mod Series
pub mod Recorded
