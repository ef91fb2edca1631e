-- The lemmas, by topic.
pub mod WholeRoots
pub mod Doubles
pub mod Patterns
pub mod Rounded
pub mod Certified
pub mod Ties
pub mod Nearest
pub mod Special
