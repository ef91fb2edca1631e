pub mod Hex
pub mod Lines
pub mod Grammar
pub mod Printed
pub mod Steps
pub mod Parts
