-- The definitions of `digits`.
pub mod Digits
