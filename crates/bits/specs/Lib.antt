-- The definitions of `bits`.
pub mod Bits
pub mod Values
