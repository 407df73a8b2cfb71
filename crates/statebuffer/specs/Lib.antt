pub mod Words
pub mod RoundTrip
pub mod Loop
pub mod Told
