-- The definitions of `widths`.
pub mod Widths
pub mod Loading
