pub mod Walking
pub mod Placing
