-- The events are those that the moves so far cover.
use Rattle.std.proofs.Common.{true, false, sym, ◌∙◌}
use Rattle.std.proofs.ByRecursion.{All-get_or}
use Rattle.pruning.specs.Computed.{InRange, covered_into}
use Rattle.pruning.proofs.LoopLaws.{Covering, gathered_none, gathered_more, gathered_same, gathered_all, in_cell, known}
use Rattle.pruning.proofs.moves.Moves.covered_into.Goals as goal
use Rattle.pruning.proofs.moves.Moves.covered_into.Goals.{then-goes_into, else-goes_into}

pub loop-m-init : goal.loop-m-init
loop-m-init c = gathered_none 64 (Covering c.args.state c.args.set) c.args.self.now.all.now

pub loop-m-preserved : goal.loop-m-preserved
loop-m-preserved c =
    let moves = c.args.self.now.all.now in
    let test = Covering c.args.state c.args.set in
    let range = All-get_or InRange moves c.loop-m.m-index (record { from = 0; cell = 0; to = 0 }) c.loop-m-test.true c.args.self.now.ranged in
    elim c.if-goes_into.branch [
      | then-goes_into w ↦
          simp w.events-is
          (gathered_more 64 test moves c.loop-m.m-index c.loop-m.events _ c.loop-m-test.true c.loop-m.invariant w.events_of-events.result w.events_of-events.type_inv
          (λ e l. in_cell _ _ range.on_cell w.events_of-events.ensures.covered e l ∙ sym (known _ true _ (sym c.goes_into.ensures ∙ w.if-goes_into.true))))
      | else-goes_into w ↦
          simp w.events-is
          (gathered_same 64 test moves c.loop-m.m-index c.loop-m.events _ c.loop-m-test.true c.loop-m.invariant (λ e l. known _ false _ (sym c.goes_into.ensures ∙ w.if-goes_into.false)))
    ]

pub returns : goal.returns
unfolding covered_into
returns c = gathered_all 64 (Covering c.args.state c.args.set) c.args.self.now.all.now c.loop-m.m-index c.loop-m.events c.loop-m-test.false c.loop-m.invariant
