-- The dispatcher's values as the model's, and the laws of a step.
pub mod State
pub mod Accounts
pub mod Step
