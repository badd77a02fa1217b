-- The proofs of the worked cases.
pub mod Below
pub mod Endings
pub mod SmallRules
pub mod WorkedRule
pub mod WorkedFiles
pub mod WorkedText
pub mod CasesAll
