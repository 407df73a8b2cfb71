-- The log judge's values as the model's, and the laws of a log.
pub mod Fits
pub mod State
pub mod Cuts
pub mod Bytes
pub mod Reading
pub mod Kept
pub mod Answers
pub mod InPlace
