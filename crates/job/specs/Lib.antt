pub mod Kept
pub mod Reply
pub mod Answer
