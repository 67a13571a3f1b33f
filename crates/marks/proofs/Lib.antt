-- What the proofs of `marks` share: its laws, and what its loops need.
-- Assumes nothing.
pub mod Marks
pub mod Words
pub mod First
