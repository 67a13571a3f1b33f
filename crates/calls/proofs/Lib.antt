-- The laws of the calls.
pub mod Numbers
pub mod Fit
pub mod WindowLaws
pub mod Refused
