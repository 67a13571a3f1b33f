-- The laws of `refusals`.
pub mod Numbers
