-- The laws of `mask`.
pub mod Refusals
pub mod Records
pub mod Fields
pub mod Numbers
pub mod TableWrites
pub mod RoundTrip
