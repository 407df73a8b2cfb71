-- Pieces of a text by what is looked for, its words, its numbers, its lines; and what is read of the text of a budget and tasks.
pub mod Words
pub mod Faults
pub mod Numbers
pub mod Lines
pub mod Canonical
pub mod Texts
pub mod RoundTrip
pub mod Told
