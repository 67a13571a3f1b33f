-- The definitions of `marks`.
pub mod Marks
