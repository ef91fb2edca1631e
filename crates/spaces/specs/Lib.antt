pub mod Space
pub mod Plane
pub mod Laws
