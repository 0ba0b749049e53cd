pub mod States
pub mod Steps
pub mod Actions
pub mod Runs
pub mod Lanes
pub mod Relations
