pub mod Rows
pub mod Opening
pub mod Stands
pub mod Runs
