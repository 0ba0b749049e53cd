pub mod Shapes
pub mod Lanes
pub mod Refusals
pub mod Operands
pub mod Changes
