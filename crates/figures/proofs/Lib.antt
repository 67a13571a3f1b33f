-- The figures' theorem, and demand 3 at one of them.
pub mod Agree
pub mod Cited
pub mod Subheaders
