pub mod Coupling
pub mod Rows
pub mod Costs
pub mod Nearness
