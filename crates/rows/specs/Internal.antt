-- The definitions of `rows` that no promise cites: steps between the papers' terms and the code.
pub mod Rows
pub mod Places
