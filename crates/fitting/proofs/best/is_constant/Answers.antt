-- Each covered event is compared with the lowest.
use Rattle.std.proofs.Common.{◌≡◌, ℕ, ◌<◌, eqb, get_or, sym, ap, ◌∙◌, arith, rules, tests}
use mir.Facts.{Fits-below}
use Rattle.std.specs.List.{list_all}
use Rattle.std.proofs.lemmas.Iterator.Consumers.{YieldsList-from_first}
use Rattle.std.proofs.lemmas.Iterator.Adapters.{serves_from_places}
use Rattle.std.proofs.lemmas.Iterator.Search.{all_from_yields_List}
use Rattle.events.specs.Sets.{members_of}
use Rattle.events.proofs.CellLaws.{lowest_small}
use Rattle.events.proofs.MemberLaws.{Member, members-in}
use Rattle.events.proofs.SetLaws.{false_T, true_T}
use Rattle.fitting.specs.Tables.{value_at}
use Rattle.fitting.proofs.SameSets.{as_lowest, all_same, same_all}
use Rattle.fitting.proofs.best.is_constant.Goals as goal

pub bounds-sets-lowest_event : goal.bounds-sets-lowest_event
bounds-sets-lowest_event c = omega (arith, lowest_small c.args.cell.number, c.lowest_event.ensures)

pub all-requires-clause-callable : goal.all-requires-clause-callable
all-requires-clause-callable c =
    serves_from_places (YieldsList-from_first (λ x. x) (λ s. members_of s.rest) (members_of c.events.result) cc)
    (λ x q k. search (rules, tests))
    (λ x k l is. let h : Member c.events.result (get_or (members_of c.events.result) k x) = members-in c.events.result k x l in
    let low : x < 64 = omega (arith, h.0, is) in
    (λ _ _ _ _ _. Fits-below {n = 256} tt (omega arith), λ _ _ _ _ _. omega arith))

same_as_lowest : (c : goal.After-all) → c.all.result ≡ list_all (as_lowest (value_at c.args.sets.now) c.args.cell.number) (members_of c.events.result)
same_as_lowest c =
    let wants = value_at c.args.sets.now in
    all_from_yields_List (λ e. eqb (wants e) (wants c.lowest_event.result)) _ _ c.all.result c.all.ensures.ran
    (YieldsList-from_first (λ x. x) (λ s. members_of s.rest) (members_of c.events.result) cc) (λ x b q k. search (rules, tests))
    ∙ ap (λ (n : ℕ). list_all (λ e. eqb (wants e) (wants n)) (members_of c.events.result)) (c.lowest_event.ensures)

pub returns-clause-same : goal.returns-clause-same
returns-clause-same c = λ t. all_same (value_at c.args.sets.now) c.args.cell.number c.events.result c.events.ensures (sym (same_as_lowest c) ∙ t)

pub returns-clause-other : goal.returns-clause-other
returns-clause-other c = λ f same.
    false_T c.all.result f (true_T c.all.result (same_as_lowest c ∙ same_all (value_at c.args.sets.now) c.args.cell.number c.events.result c.events.ensures same))
