pub mod Sweeps
pub mod Tests
pub mod Scripts
