-- What a rule is, which lists of events it can still keep, and its pruned moves.
pub mod Rules
pub mod Runs
pub mod Pruning
