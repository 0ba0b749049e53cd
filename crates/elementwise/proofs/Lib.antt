pub mod Bands
pub mod Runs
