pub mod Values
pub mod Tasks
