-- Reorderings.
pub mod Interleave
pub mod Internal
