-- The laws of `bits`.
pub mod Bits
pub mod BigEndian
pub mod Values
pub mod Shift
pub mod Joined
