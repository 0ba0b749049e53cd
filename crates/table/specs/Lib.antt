pub mod Tests
pub mod Calls
