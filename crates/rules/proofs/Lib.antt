-- What follows from the definitions: laws for code proofs, and the proofs of the theorems.
pub mod automata
pub mod trees
pub mod watch
