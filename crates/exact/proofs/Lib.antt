-- What rests on laws that an edit makes false.
pub mod Course
