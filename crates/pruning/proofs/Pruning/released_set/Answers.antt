-- A state that is not the first of the safe ones leads to nothing.
use Rattle.std.proofs.Common.{sym, ◌∙◌}
use Rattle.pruning.proofs.SelectLaws.{first_other}
use Rattle.pruning.proofs.Pruning.released_set.Goals as goal

pub returns-else-eq : goal.returns-else-eq
returns-else-eq c = first_other c.args.self.now.safe c.args.state _ c.requires c.first.ensures (sym c.eq.ensures ∙ c.if-eq.false)
