-- The lines whose digit is 0 are counted.
use Rattle.std.proofs.Common.{ℕ, ◌<◌, sum_by, refl, eqb, ◌∙◌, arith, rules, tests}
use Rattle.std.specs.List.{range_with_len}
use Rattle.std.proofs.lemmas.Iterator.{YieldsList-from_range, YieldsList-from_map}
use Rattle.std.proofs.lemmas.Iterator.Consumers.{fits_by_from_yields_list, sum_by_from_yields_List}
use Rattle.events.specs.Cells.{digit, one_if, free_in}
use Rattle.events.proofs.CellLaws.{count_le}
use Rattle.events.proofs.MemberLaws.{sum_passing}
use Rattle.fitting.proofs.cells.free_lines.Goals as goal

few : (cell : ℕ) → sum_by (λ line. one_if (eqb (digit cell line) 0)) (range_with_len 0 6) < 256
few cell = omega (arith, sum_passing 6 (λ line. eqb (digit cell line) 0), count_le 6 (λ line. eqb (digit cell line) 0))

pub sum-requires-clause-fits : goal.sum-requires-clause-fits
sum-requires-clause-fits c =
    fits_by_from_yields_list (λ line. one_if (eqb (digit c.args.cell.number line) 0)) (range_with_len 0 6) c.map.result 256
    (YieldsList-from_map _ (λ line. one_if (eqb (digit c.args.cell.number line) 0)) (YieldsList-from_range 0 6 6 (cc) refl) c.map.ensures.closure (λ x r q k. search (rules, tests)))
    (few c.args.cell.number)

pub returns : goal.returns
unfolding free_in
returns c =
    sum_by_from_yields_List (λ line. one_if (eqb (digit c.args.cell.number line) 0)) (range_with_len 0 6) c.map.result c.sum.result c.sum.ensures.ran
    (YieldsList-from_map _ (λ line. one_if (eqb (digit c.args.cell.number line) 0)) (YieldsList-from_range 0 6 6 (cc) refl) c.map.ensures.closure (λ x r q k. search (rules, tests)))
    ∙ sum_passing 6 (λ line. eqb (digit c.args.cell.number line) 0)
