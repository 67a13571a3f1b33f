-- The laws of `samples`.
pub mod Samples
pub mod Moves
pub mod Patched
pub mod Groups
pub mod Rows
pub mod Copied
