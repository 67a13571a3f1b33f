-- The definitions of `grid`.
pub mod Sizes
pub mod Check
pub mod Layout
pub mod EdgeRules
pub mod Internal
