-- The laws of `common`.
pub mod Tests
pub mod Flags
pub mod Questions
pub mod Arith
pub mod Over
pub mod Tabulate
pub mod Turns
pub mod Loops
