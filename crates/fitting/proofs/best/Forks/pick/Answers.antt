-- A cell that varies has a free line.
use Rattle.std.proofs.Common.{◌≡◌, ℕ, List, Option, None, Some}
use Rattle.std.specs.Option.{MatchOption}
use Rattle.events.specs.Cells.{free_in}
use Rattle.rules.specs.declared.Line.{Line}
use Rattle.rules.specs.trees.Costs.{Price}
use Rattle.rules.specs.trees.Bests.{Constant}
use Rattle.rules.proofs.trees.ConstantLaws.{full_constant}
use Rattle.fitting.specs.declared.best.Fork.{Fork}
use Rattle.fitting.specs.Tables.{value_at, LeastFork, Picked}
use Rattle.fitting.proofs.best.Forks.pick.Goals as goal

picked : (price : Price) (lines : List Line) (wants best : ℕ → ℕ) (cell : ℕ) (least : Option Fork) → (Constant wants cell → ⊥)
    → MatchOption least (free_in cell ≡ 0) (LeastFork price lines best cell) → Picked price lines wants best cell least
picked price lines wants best cell None varies none = absurd (varies (full_constant wants cell none))
picked price lines wants best cell (Some fork) varies least = (varies, least)

pub returns-else-is_constant : goal.returns-else-is_constant
returns-else-is_constant g c =
    let forks = c.args.self.now in
    picked (g.M.Measure.price forks.measure.now) forks.lines.now (value_at c.args.sets.now) (value_at forks.costs.now) forks.cell.number c.least.result (c.is_constant.ensures.other c.if-is_constant.false) c.least.ensures
