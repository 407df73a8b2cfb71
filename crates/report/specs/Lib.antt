-- A report put into a buffer, and how long it is.
pub mod Put
pub mod Fits
pub mod Permitted
