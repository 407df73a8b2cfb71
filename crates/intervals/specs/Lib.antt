pub mod Light
pub mod Starts
