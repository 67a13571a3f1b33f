-- The laws of `fields`.
pub mod Values
pub mod Entries
