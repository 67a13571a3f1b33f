-- The laws of `widths`.
pub mod Table
pub mod Tables
pub mod WidthLaws
pub mod Constant
pub mod Standard
