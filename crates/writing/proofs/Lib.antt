-- The laws of `writing`.
pub mod Stores
pub mod Shapes
pub mod Relays
