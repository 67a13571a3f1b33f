-- The figures of document 01.
pub mod Instance
pub mod Relays
pub mod Loadings
pub mod Figures
pub mod Subheaders
