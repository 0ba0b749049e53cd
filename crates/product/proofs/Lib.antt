pub mod Passed
pub mod RowLaws
pub mod Entries
pub mod ColumnSums
pub mod Products
pub mod Updates
