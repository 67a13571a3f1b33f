-- What the calls do, and what they ask before.
pub mod Answers
pub mod Orders
pub mod Reads
pub mod Writes
pub mod Relay
pub mod Results
