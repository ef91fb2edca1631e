pub mod Rounded
pub mod Vectors
pub mod Finite
pub mod Limits
pub mod Faults
pub mod Walks
