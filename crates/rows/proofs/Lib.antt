-- The rows of a list of words.
pub mod Rows
