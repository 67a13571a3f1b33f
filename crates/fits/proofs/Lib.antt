-- The laws of `fits`.
pub mod FirstBytes
