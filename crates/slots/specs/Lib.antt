-- One slot over lists of waits and of slots left.
pub mod Columns
pub mod Choice
pub mod Slot
pub mod Laws
pub mod Serve
