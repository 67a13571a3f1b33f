-- Tests, questions, rounding, lists and loops.
pub mod Tests
pub mod Questions
pub mod Rounding
pub mod Lists
pub mod Over
pub mod Turns
