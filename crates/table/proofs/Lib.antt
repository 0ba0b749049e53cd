pub mod Passes
pub mod Tested
pub mod Written
