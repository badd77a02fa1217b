-- The set is what the event selects from the moves so far.
use Rattle.std.proofs.Common.{sym, ap, ◌∙◌}
use lib.Count.{count_trailing_zeros}
use Rattle.std.proofs.ByRecursion.{All-get_or}
use Rattle.pruning.specs.Computed.{InRange, selected_kept}
use Rattle.pruning.proofs.LoopLaws.{gathered_none}
use Rattle.pruning.proofs.SelectLaws.{Selects, selected_more, selected_same, selected_all, target_is}
use Rattle.pruning.proofs.Pruning.selected_at.Goals as goal
use Rattle.pruning.proofs.Pruning.selected_at.Goals.{then-selects, else-selects}

pub loop-m-init : goal.loop-m-init
loop-m-init c =
    let p = c.args.self.now in
    gathered_none 32 (Selects p.live p.safe c.args.state c.args.event) c.of-moves.result.all.now

pub selects-requires : goal.selects-requires
selects-requires c =
    let range = All-get_or InRange c.of-moves.result.all.now c.loop-m.m-index (record { from = 0; cell = 0; to = 0 }) c.loop-m-test.true c.of-moves.result.ranged in
    (range.on_cell, c.requires)

pub loop-m-preserved : goal.loop-m-preserved
loop-m-preserved c =
    let p = c.args.self.now in
    let moves = c.of-moves.result.all.now in
    let range = All-get_or InRange moves c.loop-m.m-index (record { from = 0; cell = 0; to = 0 }) c.loop-m-test.true c.of-moves.result.ranged in
    elim c.if-selects.branch [
      | then-selects w ↦
          simp w.set-is
          (selected_more p.live p.safe c.args.state moves c.args.event c.loop-m.m-index c.loop-m.set _ c.loop-m-test.true c.loop-m.invariant w.only-set.result range.enters
          (target_is p.safe _ _ _ range.enters w.stand_in.ensures w.only-set.ensures.one) (sym c.selects.ensures ∙ w.if-selects.true))
      | else-selects w ↦
          simp w.set-is
          (selected_same p.live p.safe c.args.state moves c.args.event c.loop-m.m-index c.loop-m.set _ c.loop-m-test.true c.loop-m.invariant (sym c.selects.ensures ∙ w.if-selects.false))
    ]

pub returns : goal.returns
returns c =
    let p = c.args.self.now in
    selected_all p.live p.safe c.args.state c.of-moves.result.all.now c.args.event c.loop-m.m-index c.loop-m.set c.of-moves.result.ranged c.loop-m-test.false c.loop-m.invariant
    ∙ ap (λ moves. selected_kept moves p.live p.safe (count_trailing_zeros 32 p.safe) c.args.state c.args.event) c.of-moves.ensures
