-- The masks hold the targets of the moves so far.
use Rattle.std.proofs.ByRecursion.{All-get_or}
use Rattle.pruning.specs.Computed.{InRange}
use Rattle.pruning.proofs.LoopLaws.{targets_first, targets_more, targets_all}
use Rattle.pruning.proofs.live.Edges.of.Goals as goal

pub loop-m-init : goal.loop-m-init
loop-m-init c = targets_first c.args.moves.now.all.now

pub loop-m-preserved : goal.loop-m-preserved
loop-m-preserved c =
    let moves = c.args.moves.now.all.now in
    let range = All-get_or InRange moves c.loop-m.m-index (record { from = 0; cell = 0; to = 0 }) c.loop-m-test.true c.args.moves.now.ranged in
    targets_more moves c.loop-m.m-index _ c.loop-m.masks c.loop-m-test.true c.loop-m.invariant range c.only.result (c.only.ensures.one range.enters)

pub returns : goal.returns
returns c = targets_all c.args.moves.now.all.now c.loop-m.m-index c.loop-m.masks c.loop-m-test.false c.loop-m.invariant
