-- What a table keeps that is not refused, and a state that is admitted to it.
pub mod Ranges
pub mod Round
pub mod WellFormed
pub mod Demand
pub mod Closed
pub mod AtLimit
pub mod Refused
pub mod Admitted
