-- The definitions of `fields`.
pub mod Fields
pub mod Named
pub mod Sides
