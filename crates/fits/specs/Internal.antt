-- Definitions that no call cites.
pub mod Rows
