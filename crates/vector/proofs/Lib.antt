pub mod Tested
pub mod OneLane
