pub mod Edits
pub mod Steps
pub mod Asked
pub mod Standing
pub mod Playing
