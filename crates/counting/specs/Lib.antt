-- Laws of numbers, lists and searches: no word of scheduling.
pub mod Sum
pub mod Count
pub mod Below
pub mod Search
pub mod Halving
pub mod Fill
pub mod Put
pub mod Bits
pub mod Divisors
pub mod Enumerate
pub mod FromFn
pub mod Position
pub mod Listed
