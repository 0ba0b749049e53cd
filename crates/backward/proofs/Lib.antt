pub mod Accepts
pub mod Moves
pub mod ListMoves
pub mod TableMoves
pub mod Carried
