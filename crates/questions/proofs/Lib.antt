pub mod Mapped
pub mod Counting
pub mod Parting
pub mod Held
pub mod Digits
pub mod Unique
pub mod Names
pub mod Calls
