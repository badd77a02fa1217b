-- Each set is what its event selects from the moves so far.
use Rattle.std.proofs.Common.{ℕ, Bool, false, cond, length, get_or, sym, refl, ap, ◌∙◌}
use lib.Bits.{bit_or}
use lib.Count.{count_trailing_zeros}
use lib.ListN.{get_or-replicate}
use Rattle.std.proofs.ByRecursion.{All-get_or}
use Rattle.pruning.specs.Computed.{InRange, selected_kept}
use Rattle.pruning.proofs.LoopLaws.{gathered_none, in_cell, known}
use Rattle.pruning.proofs.SelectLaws.{Selects, selected_by, selected_same, selected_all, target_is}
use Rattle.pruning.proofs.Pruning.selected_sets.Goals as goal
use Rattle.pruning.proofs.Pruning.selected_sets.Goals.{then-goes_into, else-goes_into}

pub loop-m-init : goal.loop-m-init
loop-m-init c =
    let p = c.args.self.now in
    record { long = refl; are = λ e l. rw (get_or-replicate {A = ℕ} 64 e 0 0 l) (gathered_none 32 (Selects p.live p.safe c.args.state e) c.of-moves.result.all.now) }

pub loop-m-preserved : goal.loop-m-preserved
loop-m-preserved c =
    let p = c.args.self.now in
    let moves = c.of-moves.result.all.now in
    let range = All-get_or InRange moves c.loop-m.m-index (record { from = 0; cell = 0; to = 0 }) c.loop-m-test.true c.of-moves.result.ranged in
    elim c.if-goes_into.branch [
      | then-goes_into w ↦ record {
        long = ap length w.sets-is ∙ w.add_to_covered.ensures.long;
        are = λ e l.
            let on = in_cell _ _ range.on_cell w.events_of.ensures.covered e l in
            simp w.sets-is
            (selected_by p.live p.safe c.args.state moves e c.loop-m.m-index (get_or c.loop-m.sets e 0) _ c.loop-m-test.true (c.loop-m.invariant.are e l) w.only.result range.enters
            (target_is p.safe _ _ _ range.enters w.stand_in.ensures w.only.ensures.one) (sym c.goes_into.ensures ∙ w.if-goes_into.true)
            _ (w.add_to_covered.ensures.added e l ∙ ap (λ (b : Bool). cond b (bit_or (get_or c.loop-m.sets e 0) w.only.result) (get_or c.loop-m.sets e 0)) on));
      }
      | else-goes_into w ↦ record {
        long = ap length w.sets-is ∙ c.loop-m.invariant.long;
        are = λ e l.
            simp w.sets-is
            (selected_same p.live p.safe c.args.state moves e c.loop-m.m-index (get_or c.loop-m.sets e 0) _ c.loop-m-test.true (c.loop-m.invariant.are e l)
            (known _ false _ (sym c.goes_into.ensures ∙ w.if-goes_into.false)));
      }
    ]

pub returns : goal.returns
returns c e l =
    let p = c.args.self.now in
    selected_all p.live p.safe c.args.state c.of-moves.result.all.now e c.loop-m.m-index (get_or c.loop-m.sets e 0) c.of-moves.result.ranged c.loop-m-test.false (c.loop-m.invariant.are e l)
    ∙ ap (λ moves. selected_kept moves p.live p.safe (count_trailing_zeros 32 p.safe) c.args.state e) c.of-moves.ensures
