pub mod Order
pub mod Pairs
pub mod Ways
pub mod Cells
pub mod Table
pub mod Bound
pub mod Nearness
pub mod Rows
