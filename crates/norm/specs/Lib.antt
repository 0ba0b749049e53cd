pub mod Norms
pub mod Roots
