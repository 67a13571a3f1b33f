-- The laws of `interleave`.
pub mod Coordinates
pub mod KnownSamples
pub mod Accepted
pub mod Answers
pub mod Laws
pub mod OrderPlaces
