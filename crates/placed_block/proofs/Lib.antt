-- The program's block fits.
pub mod PlacedFits
