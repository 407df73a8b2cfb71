pub mod Written
pub mod RoundTrip
