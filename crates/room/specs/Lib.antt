-- The search for the room.
pub mod Halving
