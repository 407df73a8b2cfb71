-- A walk from one release or finish to the next.
pub mod Entry
pub mod Queue
pub mod AtMost
pub mod Leap
pub mod Idling
pub mod Held
pub mod Columns
pub mod Landed
pub mod Turn
pub mod Leaping
pub mod Skipping
pub mod Kept
