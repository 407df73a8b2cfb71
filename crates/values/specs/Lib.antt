-- The numbers of faults and verdicts.
pub mod Numbers
