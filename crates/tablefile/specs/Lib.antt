-- What reading at a place comes to, and the laws by which reading on and on comes to the form of the file.
pub mod Kinds
pub mod Reading
pub mod Part
pub mod Said
pub mod Built
pub mod Admitted
pub mod Told
pub mod Longer
pub mod Refused
pub mod Periodic
pub mod Written
