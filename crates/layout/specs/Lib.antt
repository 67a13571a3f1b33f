-- The definitions of `layout`.
pub mod Order
pub mod Bands
pub mod Internal
