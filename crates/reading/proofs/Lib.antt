-- The laws of `reading`.
pub mod BlockNumbers
pub mod BlockReads
