-- The laws of `rows`.
pub mod WholeBytes
pub mod OneRow
pub mod Places
