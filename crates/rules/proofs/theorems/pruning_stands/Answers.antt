-- Each theorem, by its proof.
use Rattle.rules.proofs.automata.PruningLaws.{pruned_one, selected_pruned, serves_implements}
use Rattle.rules.proofs.theorems.pruning_stands.Goals as goal

pub returns : goal.returns
returns c = record { determined = pruned_one; selected = selected_pruned; implements = serves_implements }
