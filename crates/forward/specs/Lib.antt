pub mod Forward
pub mod Tests
