-- What the C boundary adds.
pub mod Boundary
pub mod Subheaders
