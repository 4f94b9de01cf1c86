pub mod RoundTrip
pub mod Decoding
