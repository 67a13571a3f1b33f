-- The definitions of `windows` that no promise cites: steps between the papers' terms and the code.
pub mod Windows
