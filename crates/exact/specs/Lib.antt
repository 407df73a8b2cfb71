-- What the exact test says at the end of a walk, and that it is permitted.
pub mod Concluded
pub mod Answers
