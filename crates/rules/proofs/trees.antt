-- Laws of layouts, measures and best trees.
pub mod LayoutLaws
pub mod MeasureLaws
pub mod MeanCost
pub mod ConstantLaws
pub mod BestLaws
pub mod BestOne
pub mod BestTable
pub mod BestComputed
