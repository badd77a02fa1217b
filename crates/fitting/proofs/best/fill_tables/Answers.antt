-- Each turn writes the entries of one cell.
use Rattle.std.proofs.Common.{◌≡◌, ℕ, ◌+◌, ◌-◌, ◌<◌, Option, None, Some, set, sym, ap, subst, subst₂, arith, rules, tests}
use Rattle.std.proofs.ByRecursion.{All-get_or}
use Rattle.rules.specs.automata.Rules.{LineInRange, line_of}
use Rattle.std.specs.Option.{MatchOption, IsSomeAnd}
use Rattle.fitting.specs.declared.best.Fork.{Fork}
use Rattle.fitting.specs.Tables.{value_at}
use Rattle.fitting.proofs.Filled.{Filled, cost_in, line_in, filled_more, small_after, filled_bests, filled_chosen}
use Rattle.fitting.proofs.best.fill_tables.Goals as goal

pub invariant_of-pick-in-loop-number : goal.invariant_of-pick-in-loop-number
invariant_of-pick-in-loop-number g c =
    let price = g.M.Measure.price c.args.measure.now in
    let lines = c.args.lines.now in
    let k = c.loop-number.number - 1 in
    let next : c.loop-number.number ≡ k + 1 = omega (arith, c.loop-number-test.true) in
    let range : (i : ℕ) → i < 6 → LineInRange (line_of lines i) =
    λ i l. All-get_or LineInRange lines i (record { cost = 0; chance = 0 }) (omega (arith, l, c.told-lines)) c.requires in
    record {
      in_range = range;
      small =
          small_after price lines (value_at c.args.sets.now) c.loop-number.costs c.loop-number.chosen k
          (subst (Filled price lines (value_at c.args.sets.now) c.loop-number.costs c.loop-number.chosen) next c.loop-number.invariant) (omega (arith, c.loop-number.auto.number))
          (record { rises = g.met.M.Measure.rises c.args.measure.now; bounded = g.met.M.Measure.bounded c.args.measure.now }) range;
    }

cost_is : (pick : Option Fork) (cost : ℕ) → MatchOption pick (cost ≡ 0) (λ fork. cost ≡ fork.cost) → cost ≡ cost_in pick
cost_is None cost e = e
cost_is (Some fork) cost e = e

line_is : (pick : Option Fork) (line : Option ℕ) → MatchOption pick (line ≡ None) (λ fork. IsSomeAnd line (λ i. i ≡ fork.line)) → line ≡ line_in pick
line_is None line e = e
line_is (Some fork) None e = absurd e
line_is (Some fork) (Some i) e = ap Some e

pub loop-number-preserved : goal.loop-number-preserved
loop-number-preserved g c =
    let price = g.M.Measure.price c.args.measure.now in
    let lines = c.args.lines.now in
    let wants = value_at c.args.sets.now in
    let k = c.loop-number.number - 1 in
    let pick = c.pick-pick.result in
    let next : c.loop-number.number ≡ k + 1 = omega (arith, c.loop-number-test.true) in
    let cost : c.map_or.result ≡ cost_in pick = cost_is pick c.map_or.result (search (rules, tests)) in
    let line : c.map.result ≡ line_in pick = line_is pick c.map.result (search (rules, tests)) in
    subst₂ (λ (x : ℕ) (y : Option ℕ). Filled price lines wants (set c.loop-number.costs k x) (set c.loop-number.chosen k y) k) (sym cost) (sym line)
    (filled_more price lines wants c.loop-number.costs c.loop-number.chosen k (subst (Filled price lines wants c.loop-number.costs c.loop-number.chosen) next c.loop-number.invariant) (omega (arith, c.loop-number.auto.number))
    pick c.pick-pick.ensures)

pub returns : goal.returns
returns g c =
    let price = g.M.Measure.price c.args.measure.now in
    let lines = c.args.lines.now in
    let wants = value_at c.args.sets.now in
    let end : c.loop-number.number ≡ 0 = omega arith in
    let filled = subst (Filled price lines wants c.loop-number.costs c.loop-number.chosen) end c.loop-number.invariant in
    record {
      bests = filled_bests price lines wants c.loop-number.costs c.loop-number.chosen filled;
      chosen = filled_chosen price lines wants c.loop-number.costs c.loop-number.chosen filled;
    }
