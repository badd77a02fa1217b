-- What the proofs of the calls rest on.
pub mod PollLaws
pub mod StepLaws
pub mod StartLaws
pub mod ArmLaws
pub mod CallLaws
pub mod TakeLaws
pub mod TrialLaws
pub mod RunLaws
