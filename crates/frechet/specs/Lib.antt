pub mod Row
pub mod Table
pub mod Theorem
pub mod Next
