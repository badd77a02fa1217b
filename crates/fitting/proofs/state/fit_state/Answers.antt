-- The tables are filled, there is room for 127 nodes, and the tree is written from the tables.
use Rattle.std.proofs.Common.{◌≡◌, ℕ, suc, ◌^◌, ap, arith}
use Rattle.std.proofs.ByRecursion.{All-get_or}
use Rattle.events.specs.Cells.{free_in}
use Rattle.events.proofs.CellLaws.{free_whole}
use Rattle.rules.specs.automata.Rules.{LineInRange}
use Rattle.fitting.specs.Tables.{value_at, line_at}
use Rattle.fitting.proofs.StateLaws.{state_fitted}
use Rattle.fitting.proofs.state.fit_state.Goals as goal

pub write_tree-behind-requires : goal.write_tree-behind-requires
write_tree-behind-requires g c =
    let whole : 2 ^ suc (free_in 0) ≡ 128 = ap (λ (n : ℕ). 2 ^ suc n) free_whole in
    record { chosen = c.fill_tables.ensures.chosen; room = omega (arith, c.requires.room, whole); low = omega (arith, c.requires.low, whole) }

pub returns : goal.returns
returns g c =
    let wants = value_at c.args.sets.now in
    let line = line_at c.fill_tables.new.chosen in
    state_fitted (g.M.Measure.price c.args.measure.now) c.args.lines.now wants (value_at c.fill_tables.new.costs) line
    (record { rises = g.met.M.Measure.rises c.args.measure.now; bounded = g.met.M.Measure.bounded c.args.measure.now })
    (λ i l. All-get_or LineInRange c.args.lines.now i (record { cost = 0; chance = 0 }) (omega (arith, c.told-lines)) c.requires.lines)
    c.fill_tables.ensures.bests c.args.place c.args.nodes.now c.write_tree-behind.new.nodes c.write_tree-behind.result c.requires.room c.write_tree-behind.ensures
