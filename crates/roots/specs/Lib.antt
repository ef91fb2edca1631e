-- What the contracts cite.
pub mod Nearest
pub mod Special
pub mod Certificate
