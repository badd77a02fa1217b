-- A leaf where no line is chosen, and otherwise the two parts, for each of which there is room, and then the fork.
use Rattle.std.proofs.Common.{◌+◌, set, sym, subst, arith}
use Rattle.rules.specs.declared.Node.{Node}
use Rattle.fitting.specs.States.{Written}
use Rattle.fitting.specs.Tables.{value_at, line_at}
use Rattle.fitting.proofs.Writing.{leaf_written, halves, fork_written}
use Rattle.fitting.proofs.tree.+write_tree.Goals as goal

pub returns-in_default : goal.returns-in_default
returns-in_default t c =
    let wants = value_at c.args.sets.now in
    let table = c.args.chosen.now in
    let cell = c.args.cell in
    subst (λ (n : Node). Written wants (line_at table) cell.number c.args.place c.args.nodes.now (set c.args.nodes.now c.args.place n) (c.args.place + 1)) (sym c.leaf.ensures)
    (leaf_written wants table c.requires.chosen cell.number cell.low c.in_default.is c.args.nodes.now c.args.place)

pub write_tree-off-requires : goal.write_tree-off-requires
write_tree-off-requires t c =
    let h = halves c.args.cell.number c.in-Some.line c.in-Some-split.parts.on.number c.in-Some-split.parts.off.number c.args.cell.low c.in-Some-split.ensures in (
      omega (arith, h.on_fewer, c.decreases),
      (c.requires.chosen, (omega (arith, c.requires.room, h.on-half, h.some), omega (arith, c.requires.low, h.on-half, h.some))),
    )

pub write_tree-end-requires : goal.write_tree-end-requires
write_tree-end-requires t c =
    let h = halves c.args.cell.number c.in-Some.line c.in-Some-split.parts.on.number c.in-Some-split.parts.off.number c.args.cell.low c.in-Some-split.ensures in
    let written = c.write_tree-off.ensures in (
      omega (arith, h.off_fewer, c.decreases),
      (
        c.requires.chosen,
        (omega (arith, c.requires.room, h.on-half, h.off-half, written.end, written.small, c.write_tree-off.auto.nodes), omega (arith, c.requires.low, h.on-half, h.off-half, written.end, written.small)),
      ),
    )

pub fork-requires-clause-off : goal.fork-requires-clause-off
fork-requires-clause-off t c =
    let h = halves c.args.cell.number c.in-Some.line c.in-Some-split.parts.on.number c.in-Some-split.parts.off.number c.args.cell.low c.in-Some-split.ensures in
    let written = c.write_tree-off.ensures in
    omega (arith, c.requires.low, h.on-half, written.end, written.small)

pub returns : goal.returns
returns t c =
    let wants = value_at c.args.sets.now in
    let table = c.args.chosen.now in
    let cell = c.args.cell in
    subst (λ (n : Node). Written wants (line_at table) cell.number c.args.place c.args.nodes.now (set c.write_tree-end.new.nodes c.args.place n) c.write_tree-end.result) (sym c.fork.ensures)
    (fork_written wants table c.requires.chosen cell.number cell.low c.in-Some.line c.in-Some.is c.args.place c.write_tree-off.result c.write_tree-end.result
    c.in-Some-split.parts.on.number c.in-Some-split.parts.off.number c.args.nodes.now c.write_tree-off.new.nodes c.write_tree-end.new.nodes
    c.in-Some-split.ensures c.write_tree-off.ensures c.write_tree-end.ensures)
