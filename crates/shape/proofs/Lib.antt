pub mod Verdicts
pub mod Blocks
pub mod Cells
pub mod Parts
pub mod Broadcast
pub mod Passes
pub mod Answered
