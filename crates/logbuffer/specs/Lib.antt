-- The parts of a log's buffer, and the exported calls on it.
pub mod Parts
pub mod RoundTrip
pub mod Numbers
pub mod Judging
