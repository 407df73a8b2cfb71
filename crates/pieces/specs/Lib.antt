-- The pieces of a text.
pub mod Marks
pub mod Pieces
pub mod Same
pub mod HasLine
