pub mod Answered
pub mod Roots
