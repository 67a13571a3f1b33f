-- The definitions of `subheader`.
pub mod Subheader
pub mod RoundTrip
pub mod Internal
