pub mod Fits
pub mod Passing
