pub mod Backs
pub mod Tests
