-- What a walk over a table holds before each slot, whoever walks.
pub mod Walked
pub mod Caught
pub mod Tally
pub mod Course
