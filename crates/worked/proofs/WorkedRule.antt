-- One rule worked in full: its live and safe states, the best trees of its first state by both measures, and a watch that goes from OPEN to BREACH.
use Rattle.std.proofs.Common.{◌≡◌, ℕ, zero, suc, ◌+◌, ◌<◌, ◌≤◌, T, List, [], ◌∷◌, get_or, sym, refl, ◌∙◌, subst, inl, inr, suc-ne-zero, arith, lit≤, Bor}
use Rattle.std.specs.Prelude.{Err, Result}
use lib.Bits.{and_zero_r}
use Rattle.rules.specs.declared.Move.{Move}
use Rattle.rules.specs.declared.Verdict.TheVariants as verdict
use Rattle.rules.specs.declared.Word.TheVariants as word
use Rattle.rules.specs.declared.Call.TheVariants as call
use Rattle.rules.specs.declared.Refusal.{Refusal}
use Rattle.rules.specs.declared.Refusal.TheVariants as refusal
use Rattle.rules.specs.declared.Answer.{Answer}
use Rattle.events.specs.Sets.{has, ◌∈◌, set_of, union_over}
use Rattle.events.specs.Cells.{Covers, covers, lowest, free_in}
use Rattle.rules.specs.automata.Rules.{Starts, LineInRange, MoveInRange, Before, WellFormed}
use Rattle.rules.specs.automata.Runs.{Step, Live, Safe}
use Rattle.rules.specs.automata.Pruning.{StandsFor, Wants, selected, Kinds, pruned_moves}
use Rattle.rules.specs.trees.Trees.{Tree}
use Rattle.rules.specs.trees.Costs.{Price, Lawful, expected, worst, cost_of}
use Rattle.rules.specs.trees.Bests.{BestTree, Fitted}
use Rattle.rules.specs.watch.Verdicts.{IsBreach}
use Rattle.rules.specs.watch.Holding.{tree_of, Sound, Settled, ReleaseSet, StartSet, Reads, Watches}
use Rattle.rules.specs.watch.Calls.{Taking, Rehearsing, take_gives, rehearsal_gives}
use Rattle.rules.specs.watch.Calls as C
use Rattle.rules.specs.watch.Promises.{FittedAll, Promise}
use Rattle.worked.specs.Cases.{line, move, worked, by_expected, by_worst, kept_by3, worked_trees, worked_costs, worked_log}
use Rattle.events.proofs.SetLaws.{∈_none, ∈_below}
use Rattle.rules.proofs.automata.RuleLaws.{live_below}
use Rattle.rules.proofs.automata.PruningLaws.{selected_wanted}
use Rattle.events.proofs.CellLaws.{covers_is}
use Rattle.rules.proofs.trees.MeasureLaws.{expected_lawful, worst_lawful}
use Rattle.rules.proofs.trees.BestLaws.{best_fitted, best_costs}
use Rattle.rules.proofs.trees.BestComputed.{Best, fill, cost_in, line_in, fill_bests, build, built}
use Rattle.rules.proofs.watch.VerdictLaws.{is_breach}
use Rattle.worked.proofs.Endings.{live_here, live_before}
use Rattle.worked.proofs.Below.{◌&◌, EachBelow, each_below}
use Rattle.rules.proofs.watch.PromiseLaws.{fitted_sound, settled_open, reads_open, reads_breach, armed, taken, take_breached, take_taken, tried_none, tried_more, rehearse_breach_found, rehearse_not_an_event}

-- ---- it is well formed

fits : (c p : ℕ) → 1 ≤ c → c ≤ 1000 → p ≤ 100 → LineInRange (line c p)
fits c p low high chance = record { cost_low = low; cost_high = high; chance_high = chance }

goes : (f c t : ℕ) → f < 4 → c < 729 → t < 4 → MoveInRange worked (move f c t)
goes f c t lf lc lt = record { from_low = lf; cell_low = lc; to_low = lt }

abbrev Rises : ℕ → Type 0
Rises k = (d : Move) → Before (get_or worked.moves k d) (get_or worked.moves (k + 1) d)

rises : (k : ℕ) → k < 6 → Rises k
rises = each_below 6 Rises (
    (λ d. inr (refl, inl (lit≤ tt)))
    & (λ d. inr (refl, inl (lit≤ tt)))
    & (λ d. inr (refl, inl (lit≤ tt)))
    & (λ d. inl (lit≤ tt))
    & (λ d. inl (lit≤ tt))
    & (λ d. inl (lit≤ tt))
    & tt
    )

pub worked_well : WellFormed worked
worked_well = record {
  six_lines = refl;
  lines_fit =
      fits 10 20 (lit≤ tt) (lit≤ tt) (lit≤ tt)
      & fits 5 50 (lit≤ tt) (lit≤ tt) (lit≤ tt)
      & fits 20 50 (lit≤ tt) (lit≤ tt) (lit≤ tt)
      & fits 1 50 (lit≤ tt) (lit≤ tt) (lit≤ tt)
      & fits 1 50 (lit≤ tt) (lit≤ tt) (lit≤ tt)
      & fits 1 50 (lit≤ tt) (lit≤ tt) (lit≤ tt)
      & tt;
  some_state = lit≤ tt;
  few_states = lit≤ tt;
  some_start = (0, tt);
  few_moves = lit≤ tt;
  moves_fit =
      goes 0 1 1 (lit≤ tt) (lit≤ tt) (lit≤ tt)
      & goes 0 5 2 (lit≤ tt) (lit≤ tt) (lit≤ tt)
      & goes 0 6 1 (lit≤ tt) (lit≤ tt) (lit≤ tt)
      & goes 0 9 3 (lit≤ tt) (lit≤ tt) (lit≤ tt)
      & goes 1 27 1 (lit≤ tt) (lit≤ tt) (lit≤ tt)
      & goes 2 27 2 (lit≤ tt) (lit≤ tt) (lit≤ tt)
      & goes 3 27 3 (lit≤ tt) (lit≤ tt) (lit≤ tt)
      & tt;
  ascending = λ k d l. rises k (omega arith) d;
}

-- ---- all four states are live, and none is safe

covered : (cell e : ℕ) → T (covers cell e) → Covers cell e
covered cell e h = (covers_is cell e).0 h

worked_live : (q : ℕ) → q < 4 → Live worked q
unfolding covers has
worked_live = each_below 4 (Live worked) (
    live_before worked 0 1 1 8 (lit≤ tt) (lit≤ tt) tt (1, inl (refl, covered 1 1 tt, refl), refl) (1, inr (inr (inr (inr (inl (refl, covered 27 8 tt, refl))))), refl)
    & live_here worked 1 8 (lit≤ tt) tt (1, inr (inr (inr (inr (inl (refl, covered 27 8 tt, refl))))), refl)
    & live_here worked 2 8 (lit≤ tt) tt (2, inr (inr (inr (inr (inr (inl (refl, covered 27 8 tt, refl)))))), refl)
    & live_here worked 3 8 (lit≤ tt) tt (3, inr (inr (inr (inr (inr (inr (inl (refl, covered 27 8 tt, refl))))))), refl)
    & tt
    )

-- at event 0 only state 0 has a move, and it leads to state 1
step_at_0 : (q r : ℕ) → Step worked q 0 r → (0 ≡ q) × (1 ≡ r)
unfolding has
step_at_0 q r (inl (p, c, x)) = absurd (c 0 (lit≤ tt))
step_at_0 q r (inr (inl (p, c, x))) = absurd (c 1 (lit≤ tt))
step_at_0 q r (inr (inr (inl (p, c, x)))) = (p, x)
step_at_0 q r (inr (inr (inr (inl (p, c, x))))) = absurd (c 2 (lit≤ tt))
step_at_0 q r (inr (inr (inr (inr (inl (p, c, x)))))) = absurd (c 3 (lit≤ tt))
step_at_0 q r (inr (inr (inr (inr (inr (inl (p, c, x))))))) = absurd (c 3 (lit≤ tt))
step_at_0 q r (inr (inr (inr (inr (inr (inr (inl (p, c, x)))))))) = absurd (c 3 (lit≤ tt))
step_at_0 q r (inr (inr (inr (inr (inr (inr (inr none))))))) = absurd none

worked_unsafe : (q : ℕ) → Safe worked q → ⊥
worked_unsafe q (set, safe, h) =
    let (r, step, k) = safe.stays q 0 h (lit≤ tt) in
    let (r', step', k') = safe.stays r 0 k (lit≤ tt) in
    suc-ne-zero 0 ((step_at_0 q r step).1 ∙ sym (step_at_0 r r' step').0)

four : (q : ℕ) → q < 4 → q ∈ 15
unfolding has
four = each_below 4 (λ q. q ∈ 15) (tt & tt & tt & tt & tt)

pub worked_kinds : Kinds worked 15 0 0
worked_kinds = record {
  small = lit≤ tt;
  live_is = λ q. ((λ h. worked_live q (∈_below 4 q 15 (lit≤ tt) h)), (λ l. four q (live_below worked worked_well q l)));
  safe_is = λ q. ((λ h. absurd (∈_none q h)), (λ s. absurd (worked_unsafe q s)));
  release_is = λ q s. absurd (worked_unsafe q s);
}

-- ---- its best trees

-- what a state wants at an event
wants : ℕ → ℕ → ℕ
wants q e = selected (pruned_moves worked 15 0 0 q) e

wanted : (q : ℕ) → Wants worked q (wants q)
unfolding wants
wanted q = selected_wanted worked 15 0 0 worked_kinds q

-- the best cost and line of each cell, for a state by a measure
abbrev table : Price → ℕ → List Best
table price q = fill price worked.lines (wants q) 729

-- the tree that the table gives
abbrev made : Price → ℕ → Tree
made price q = build price worked.lines (wants q) (table price q) 6 0

-- is the fitted one, at its own cost
made_fitted : (price : Price) → Lawful price → (q : ℕ) (t : Tree) → made price q ≡ t → Fitted price worked q t (cost_of price worked.lines 6 t)
made_fitted price law q t is-made =
    let costs = cost_in price worked.lines (wants q) (table price q) in
    let chosen = line_in price worked.lines (wants q) (table price q) in
    let bests = fill_bests price worked.lines (wants q) 729 refl in
    let best = subst (BestTree (wants q) chosen 0) is-made (built price worked.lines (wants q) 729 refl) in
    subst (Fitted price worked q t) (sym (best_costs price worked q (wants q) costs chosen law worked_well (wanted q) bests t best))
    (best_fitted price worked q (wants q) costs chosen law worked_well (wanted q) bests t best)

expected_made : EachBelow 4 (λ q. made expected q ≡ tree_of worked_trees q)
unfolding fill wants has set_of covers lowest free_in
expected_made = refl & refl & refl & refl & tt

worst_made : made worst 0 ≡ by_worst
unfolding fill wants has set_of covers lowest free_in
worst_made = refl

-- by worst cost the first state's tree costs 35, and forks on line 0 first
pub worst_fitted : Fitted worst worked 0 by_worst 35
worst_fitted = made_fitted worst worst_lawful 0 by_worst worst_made

-- by expected cost it costs 30 times 10 ^ 12, and forks on line 1 first
pub worked_fitted : FittedAll expected worked worked_trees worked_costs
worked_fitted = record { a_tree_each = refl; a_cost_each = refl; fitted = each_below 4 (λ q. Fitted expected worked q (tree_of worked_trees q) (get_or worked_costs q 0)) each }
  where
    each : EachBelow 4 (λ q. Fitted expected worked q (tree_of worked_trees q) (get_or worked_costs q 0))
    each =
        made_fitted expected expected_lawful 0 by_expected expected_made.0
        & made_fitted expected expected_lawful 1 (kept_by3 2) expected_made.1.0
        & made_fitted expected expected_lawful 2 (kept_by3 4) expected_made.1.1.0
        & made_fitted expected expected_lawful 3 (kept_by3 8) expected_made.1.1.1.0
        & tt

pub worked_sound : Sound worked worked_trees
worked_sound = fitted_sound expected worked worked_trees worked_costs worked_well (λ q. inr (worked_unsafe q)) worked_fitted

-- ---- a watch over the events 5, 8, 0, 1

no_release : ReleaseSet worked 0
no_release = inr ((λ r rel. worked_unsafe r rel.0), refl)

worked_start : StartSet worked 1
unfolding has
worked_start = record { small = lit≤ tt; members = λ t. (fwd t, (λ (s, st, stands). bwd t s st stands)) }
  where
    fwd : (t : ℕ) → t ∈ 1 → (s : ℕ) × Starts worked s × StandsFor worked s t
    fwd t h = let low = ∈_below 1 t 1 (lit≤ tt) h in let z : t ≡ 0 = omega arith in (0, tt, (worked_live 0 (lit≤ tt), inl (worked_unsafe 0, z)))

    bwd : (t s : ℕ) → Starts worked s → StandsFor worked s t → t ∈ 1
    bwd t zero st (live, inl (unsafe, z)) = subst (λ (k : ℕ). k ∈ 1) (sym z) tt
    bwd t s st (live, inr (safe, rel)) = absurd (worked_unsafe s safe)
    bwd t (suc zero) st (live, inl x) = absurd st
    bwd t (suc (suc zero)) st (live, inl x) = absurd st
    bwd t (suc (suc (suc zero))) st (live, inl x) = absurd st
    bwd t (suc (suc (suc (suc s)))) st (live, inl x) = absurd st

-- a set that is held as it is, since there is no release state
kept : (set : ℕ) → Settled worked set set
kept set = settled_open worked 0 no_release set (and_zero_r set)

still_open : (count set : ℕ) → (set ≡ 0 → ⊥) → Reads worked count set verdict.Open
still_open count set some = reads_open worked 0 no_release count set some (and_zero_r set)

not_open : IsBreach verdict.Open → ⊥
not_open (j, e) = is_breach verdict.Open j e

after_none : Watches worked worked_trees [] 1 verdict.Open
after_none = armed worked worked_trees 1 1 verdict.Open worked_start (kept 1) (still_open 0 1 (suc-ne-zero 0))

after_5 : Watches worked worked_trees (5 ∷ []) 10 verdict.Open
unfolding union_over has
after_5 = taken worked worked_trees [] 1 verdict.Open 5 10 verdict.Open after_none (kept 10) (still_open 1 10 (suc-ne-zero 9))

after_5_8 : Watches worked worked_trees (5 ∷ 8 ∷ []) 10 verdict.Open
unfolding union_over has
after_5_8 = taken worked worked_trees (5 ∷ []) 10 verdict.Open 8 10 verdict.Open after_5 (kept 10) (still_open 2 10 (suc-ne-zero 9))

after_5_8_0 : Watches worked worked_trees (5 ∷ 8 ∷ 0 ∷ []) 0 (verdict.BreachAt 3)
unfolding union_over has
after_5_8_0 = taken worked worked_trees (5 ∷ 8 ∷ []) 10 verdict.Open 0 0 (verdict.BreachAt 3) after_5_8 (kept 0) (reads_breach worked 0 no_release 3)

-- what five takes answer: OPEN, OPEN, BREACH at 3, and two refusals; they poll lines 1 and 2, then line 3, then line 3
abbrev pub worked_answers : List (Result Answer Refusal)
worked_answers =
    take_gives verdict.Open 6
    ∷ take_gives verdict.Open 8
    ∷ take_gives (verdict.BreachAt 3) 8
    ∷ Err refusal.Breached
    ∷ Err refusal.Breached
    ∷ []

take_5 : (later : List ℕ) → Taking worked worked_trees [] (5 ∷ later) (take_gives verdict.Open 6) (5 ∷ []) later
unfolding union_over has
take_5 later = take_taken worked worked_trees worked_sound [] 1 verdict.Open after_none 5 later 10 verdict.Open not_open (lit≤ tt) (kept 10) (still_open 1 10 (suc-ne-zero 9))

take_8 : (later : List ℕ) → Taking worked worked_trees (5 ∷ []) (8 ∷ later) (take_gives verdict.Open 8) (5 ∷ 8 ∷ []) later
unfolding union_over has
take_8 later = take_taken worked worked_trees worked_sound (5 ∷ []) 10 verdict.Open after_5 8 later 10 verdict.Open not_open (lit≤ tt) (kept 10) (still_open 2 10 (suc-ne-zero 9))

take_0 : (later : List ℕ) → Taking worked worked_trees (5 ∷ 8 ∷ []) (0 ∷ later) (take_gives (verdict.BreachAt 3) 8) (5 ∷ 8 ∷ 0 ∷ []) later
unfolding union_over has
take_0 later = take_taken worked worked_trees worked_sound (5 ∷ 8 ∷ []) 10 verdict.Open after_5_8 0 later 0 (verdict.BreachAt 3) not_open (lit≤ tt) (kept 0) (reads_breach worked 0 no_release 3)

-- once the breach stands, a take is refused
take_no_more : (coming : List ℕ) → Taking worked worked_trees (5 ∷ 8 ∷ 0 ∷ []) coming (Err refusal.Breached) (5 ∷ 8 ∷ 0 ∷ []) coming
take_no_more coming = take_breached worked worked_trees worked_sound (5 ∷ 8 ∷ 0 ∷ []) 0 (verdict.BreachAt 3) after_5_8_0 coming (3, refl)

pub worked_calls : Promise expected worked worked_trees worked_costs (call.Take ∷ call.Take ∷ call.Take ∷ call.Take ∷ call.Take ∷ []) worked_log worked_answers (1 ∷ [])
worked_calls = record {
  fit = worked_fitted;
  taken = 5 ∷ 8 ∷ 0 ∷ [];
  answered =
      C.CallsAll.one_more (take_5 (8 ∷ 0 ∷ 1 ∷ []))
      (C.CallsAll.one_more (take_8 (0 ∷ 1 ∷ []))
      (C.CallsAll.one_more (take_0 (1 ∷ []))
      (C.CallsAll.one_more (take_no_more (1 ∷ []))
      (C.CallsAll.one_more (take_no_more (1 ∷ []))
      C.CallsAll.no_more))));
}

-- after event 5, rehearsing 8, 0, 64 finds a breach after 2 events
pub worked_rehearsal : (coming : List ℕ) → Rehearsing worked worked_trees (5 ∷ []) coming (8 ∷ 0 ∷ 64 ∷ []) (rehearsal_gives word.Breach 2) (5 ∷ []) coming
unfolding union_over has
worked_rehearsal coming =
    let t0 = tried_none worked worked_trees worked_sound (5 ∷ []) (8 ∷ 0 ∷ 64 ∷ []) 10 verdict.Open after_5 not_open in
    let t1 = tried_more worked worked_trees worked_sound (5 ∷ []) (8 ∷ 0 ∷ 64 ∷ []) 0 10 verdict.Open t0 10 verdict.Open not_open (lit≤ tt) (lit≤ tt) (kept 10) (still_open 2 10 (suc-ne-zero 9)) in
    let t2 = tried_more worked worked_trees worked_sound (5 ∷ []) (8 ∷ 0 ∷ 64 ∷ []) 1 10 verdict.Open t1 0 (verdict.BreachAt 3) not_open (lit≤ tt) (lit≤ tt) (kept 0) (reads_breach worked 0 no_release 3) in
    rehearse_breach_found worked worked_trees worked_sound (5 ∷ []) (8 ∷ 0 ∷ 64 ∷ []) 2 0 (verdict.BreachAt 3) t2 coming (3, refl)

-- and rehearsing 8, 64 is refused at index 1
pub worked_refusal : (coming : List ℕ) → Rehearsing worked worked_trees (5 ∷ []) coming (8 ∷ 64 ∷ []) (Err (refusal.NoEvent 1)) (5 ∷ []) coming
unfolding union_over has
worked_refusal coming =
    let t0 = tried_none worked worked_trees worked_sound (5 ∷ []) (8 ∷ 64 ∷ []) 10 verdict.Open after_5 not_open in
    let t1 = tried_more worked worked_trees worked_sound (5 ∷ []) (8 ∷ 64 ∷ []) 0 10 verdict.Open t0 10 verdict.Open not_open (lit≤ tt) (lit≤ tt) (kept 10) (still_open 2 10 (suc-ne-zero 9)) in
    rehearse_not_an_event worked worked_trees worked_sound (5 ∷ []) (8 ∷ 64 ∷ []) 1 10 verdict.Open t1 coming not_open (lit≤ tt) (lit≤ tt)

-- the take of event 5 and both rehearsals, as calls of one watch
pub worked_rehearsals : (first second : Bor (List ℕ)) (coming : List ℕ) → first.now ≡ 8 ∷ 0 ∷ 64 ∷ [] → second.now ≡ 8 ∷ 64 ∷ []
    → Promise expected worked worked_trees worked_costs (call.Take ∷ call.Rehearse first ∷ call.Rehearse second ∷ []) (5 ∷ coming)
    (take_gives verdict.Open 6 ∷ rehearsal_gives word.Breach 2 ∷ Err (refusal.NoEvent 1) ∷ []) coming
worked_rehearsals first second coming is-first is-second = record {
  fit = worked_fitted;
  taken = 5 ∷ [];
  answered =
      C.CallsAll.one_more (take_5 coming)
      (C.CallsAll.one_more (subst (λ (tried : List ℕ). Rehearsing worked worked_trees (5 ∷ []) coming tried (rehearsal_gives word.Breach 2) (5 ∷ []) coming) (sym is-first) (worked_rehearsal coming))
      (C.CallsAll.one_more (subst (λ (tried : List ℕ). Rehearsing worked worked_trees (5 ∷ []) coming tried (Err (refusal.NoEvent 1)) (5 ∷ []) coming) (sym is-second) (worked_refusal coming))
      C.CallsAll.no_more));
}
