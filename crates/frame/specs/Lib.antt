-- What a re-lay does to any image, lists of calls, the plain frame, and demand 3.
pub mod RelayClaim
pub mod Call
pub mod Calls
pub mod PlainFrame
pub mod Demand3
pub mod OwnWords
pub mod Determined
pub mod EitherRule
pub mod FullFromStart
