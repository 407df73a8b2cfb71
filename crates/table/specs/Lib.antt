-- One pass over a table that is judged.
pub mod Survey
