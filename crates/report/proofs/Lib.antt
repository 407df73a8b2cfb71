-- Theorems that rest on what an edit changes, and the pieces of a report.
pub mod Fits
pub mod Permitted
pub mod Pieces
