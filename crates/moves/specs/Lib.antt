-- The definitions of `moves`.
pub mod Internal
