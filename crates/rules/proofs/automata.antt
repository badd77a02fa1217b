-- Laws of sets, cells, runs and pruned moves.
pub mod RunLaws
pub mod RuleLaws
pub mod MaskLaws
pub mod PruningLaws
