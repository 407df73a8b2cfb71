pub mod Machine
pub mod Euclid
pub mod Lift
pub mod Passing
