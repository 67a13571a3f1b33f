-- The definitions of `subheader` that no promise cites: steps between the papers' terms and the code.
pub mod Parts
