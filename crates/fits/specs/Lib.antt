-- What the contracts of `fits` cite.
pub mod Internal
