pub mod Stored
pub mod SumLaws
