pub mod Passes
pub mod Families
pub mod Routes
pub mod Columns
pub mod Taken
