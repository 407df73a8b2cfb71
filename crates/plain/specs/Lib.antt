pub mod Noted
pub mod Walking
