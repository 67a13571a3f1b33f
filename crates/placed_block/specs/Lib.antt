-- The layout of the program's block, and a test of its samples.
pub mod Placed
