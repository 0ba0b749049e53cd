pub mod Settles
pub mod Tested
pub mod Backs
pub mod CellsTested
pub mod Firsts
