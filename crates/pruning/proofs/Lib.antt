-- The laws of what is computed: a draft's rule is well-formed, rounds settle, and the sets are the live states, the safe states and the pruned sets.
pub mod DraftLaws
pub mod RoundLaws
pub mod LoopLaws
pub mod LiveLaws
pub mod SafeLaws
pub mod SelectLaws
pub mod GatherLaws
