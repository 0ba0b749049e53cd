pub mod Clears
pub mod Solving
