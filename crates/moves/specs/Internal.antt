-- The definitions of `moves` that no promise cites: steps between the papers' terms and the code.
pub mod Puts
pub mod Parts
pub mod Stores
pub mod Spacings
pub mod Orders
pub mod Runs
pub mod PartReads
pub mod BlockStores
pub mod Relays
