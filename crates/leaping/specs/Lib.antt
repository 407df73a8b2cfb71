-- The search of the exact test by leaps.
pub mod Start
pub mod Ended
