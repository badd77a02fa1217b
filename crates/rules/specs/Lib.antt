-- What a rule, its polling trees and a watch mean, in reading order, and the theorems that stand on these definitions.
pub mod automata
pub mod trees
pub mod watch
pub mod Theorems
pub mod Text
