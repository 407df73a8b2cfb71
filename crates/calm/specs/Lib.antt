pub mod Fit
pub mod Calmed
