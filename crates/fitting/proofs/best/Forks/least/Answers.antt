-- The forks on the six lines, lowest first, of which the cheapest stays.
use Rattle.std.proofs.Common.{refl, rules, tests, None}
use Rattle.std.proofs.lemmas.Iterator.{YieldsList-from_range, YieldsList-from_map}
use Rattle.std.proofs.lemmas.Iterator.Consumers.{fold_from_yields_List}
use Rattle.fitting.specs.Tables.{value_at, cheaper_of}
use Rattle.fitting.proofs.Scans.{fork_at, fork_is, scanned}
use Rattle.fitting.proofs.best.Forks.least.Goals as goal

pub returns : goal.returns
returns g c =
    let forks = c.args.self.now in
    let price = g.M.Measure.price forks.measure.now in
    let best = value_at forks.costs.now in
    scanned price forks.lines.now best forks.cell.number c.fold.result
    (fold_from_yields_List _ cheaper_of None c.fold.result c.fold.ensures.ran
    (YieldsList-from_map _ (fork_at price forks.lines.now best forks.cell.number) (YieldsList-from_range 0 6 6 (cc) refl) c.map.ensures.closure
    (λ x r q k. search (rules, tests, fork_is price forks.lines.now best forks.cell.number)))
    (λ a x b q k. search (rules, tests)))
