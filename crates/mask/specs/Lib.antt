-- The image data mask table.
pub mod Table
pub mod Mask
pub mod RoundTrip
