-- What follows from the definitions, for the crates above too.
pub mod SetLaws
pub mod LowestLaws
pub mod MemberLaws
pub mod CellLaws
pub mod TableRule
pub mod FourCells
