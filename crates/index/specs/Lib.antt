pub mod Indices
pub mod Routes
pub mod Calls
pub mod Transposes
pub mod Tables
