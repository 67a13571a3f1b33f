-- The definitions of `grid` that no promise cites: steps between the papers' terms and the code.
pub mod Blocks
pub mod BlockLayouts
