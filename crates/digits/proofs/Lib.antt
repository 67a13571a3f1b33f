-- The proofs of `digits`.
pub mod Digits
