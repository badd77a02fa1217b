-- The states so far are fitted.
use Rattle.pruning.specs.Drafts.{rule_of}
use Rattle.fitting.proofs.AllStates.{Begun}
use Rattle.fitting.proofs.fit.fit_states.Given as goal

abbrev pub invariant-loop-q : goal.invariant-loop-q
invariant-loop-q g l = Begun (g.M.Measure.price l.measure) (rule_of l.draft) l.initial.nodes l.nodes l.tree-items l.behind l.q
