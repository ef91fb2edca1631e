pub mod Asked
pub mod Spelling
pub mod Reading
pub mod Answers
