-- A number and its four bytes; words put one after another.
pub mod Word
pub mod Bytes
pub mod Out
