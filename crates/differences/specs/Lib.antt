pub mod Rows
pub mod Matrices
pub mod MulCols
pub mod Tiles
pub mod Updates
pub mod Transposes
