-- The definitions of `layout` that no promise cites: steps between the papers' terms and the code.
pub mod Layout
pub mod Spacing
