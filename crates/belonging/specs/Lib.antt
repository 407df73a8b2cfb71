-- When a state belongs to a table.
pub mod Strange
pub mod Room
