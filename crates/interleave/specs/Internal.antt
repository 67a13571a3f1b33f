-- The definitions of `interleave` that no promise cites: steps between the papers' terms and the code.
pub mod OrderLayout
