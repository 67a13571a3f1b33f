-- The laws of `layout`.
pub mod Order
pub mod Below
pub mod Listed
pub mod Places
pub mod Spaced
