pub mod Fields
pub mod Growth
pub mod Holding
pub mod Reading
pub mod FirstFaults
