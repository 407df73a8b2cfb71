-- Pieces put into a buffer one behind the other; numbers in decimal.
pub mod Pieces
pub mod Decimal
