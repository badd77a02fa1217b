-- Lemmas that several proofs use.
pub mod Places
pub mod PlainBytes
pub mod Pairs
pub mod ChangeBytes
pub mod Playing
pub mod Rewiring
pub mod Flips
pub mod Gather
