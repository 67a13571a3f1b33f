-- The definitions of `rows`.
pub mod Internal
