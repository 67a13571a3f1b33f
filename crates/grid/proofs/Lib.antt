-- The laws of `grid`.
pub mod Accepted
pub mod BlockLayouts
pub mod EdgeRules
pub mod SamplePlaces
pub mod Runs
pub mod Checked
