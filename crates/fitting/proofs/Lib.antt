-- What the proofs of the functions share.
pub mod Prices
pub mod SameSets
pub mod Scans
pub mod Filled
pub mod Writing
pub mod StateLaws
pub mod Layouts
pub mod AllStates
pub mod ReadLaws
pub mod OneState
pub mod PlanLaws
