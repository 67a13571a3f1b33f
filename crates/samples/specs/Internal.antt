-- The definitions of `samples` that no promise cites: steps between the papers' terms and the code.
pub mod Samples
pub mod Row
pub mod Patched
pub mod Groups
