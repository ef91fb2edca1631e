pub mod Rows
pub mod Closing
pub mod Completed
pub mod Lawful
