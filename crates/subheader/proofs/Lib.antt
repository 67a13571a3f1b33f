-- The laws of `subheader`.
pub mod Parts
pub mod Refused
pub mod RoundTrip
