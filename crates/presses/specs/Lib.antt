-- A step under presses.
pub mod State
pub mod Step
