-- A window and the blocks that it crosses.
pub mod Internal
