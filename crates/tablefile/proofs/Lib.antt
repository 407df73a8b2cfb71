-- What reading at a place comes to, and the laws by which reading on and on comes to the form of the file.
pub mod Reached
pub mod FirstStep
pub mod Steps
pub mod ReadSoFar
