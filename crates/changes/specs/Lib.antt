-- Changes of a table, from easy to hard, and what fits of them.
pub mod Hardening
pub mod Fits
pub mod Numbers
