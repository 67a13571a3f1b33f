-- The laws of `moves`.
pub mod Putting
pub mod Rect
pub mod Whole
pub mod Answers
pub mod StoreLengths
pub mod Stored
pub mod StoredBits
pub mod Orders
pub mod Pieces
pub mod ReadPieces
pub mod StorePieces
pub mod Counted
pub mod PartReads
pub mod BlockStores
pub mod RowRuns
pub mod Relays
pub mod SavedRuns
