-- The records of a file put one after another; what is written is read, and what was read is written.
pub mod Records
pub mod RoundTrip
pub mod Told
