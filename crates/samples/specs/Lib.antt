-- The definitions of `samples`.
pub mod Internal
