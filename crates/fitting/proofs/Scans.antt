-- The cheapest of the forks on the lines passed, the lowest of those that cost the same.
use Rattle.std.proofs.Common.{◌≡◌, ℕ, zero, suc, ◌<◌, ◌≤◌, Bool, true, false, cond, ◌&&◌, eqb, ltb, ◌⊎◌, List, [], ◌∷◌, Option, None, Some, map, fold, sym, refl, ap, ap₂, ◌∙◌, subst, inl, inr, not-suc-le-zero, arith, eq-eqb, lt-ltb}
use Rattle.std.specs.List.{range_with_len}
use Rattle.std.proofs.lemmas.List.{map_push}
use Rattle.std.specs.Option.{MatchOption}
use Rattle.std.proofs.lemmas.Bool.{cases_lt, cases_eq, ne_eqb, le-ltb}
use Rattle.std.proofs.lemmas.List.Sums.{fold-append}
use Rattle.events.specs.Cells.{digit, Free, free_in}
use Rattle.events.proofs.CellLaws.{free_none}
use Rattle.events.proofs.MemberLaws.{numbers_more}
use Rattle.rules.specs.declared.Line.{Line}
use Rattle.rules.specs.trees.Costs.{Price}
use Rattle.rules.specs.trees.Bests.{fork_price}
use Rattle.rules.proofs.trees.BestTable.{Least, least_first, least_better, least_kept, least_skipped, none_more}
use Rattle.fitting.specs.declared.best.Fork.{Fork}
use Rattle.fitting.specs.Tables.{cheaper_of, LeastFork}

-- ---- the best so far

module _ (f : ℕ → ℕ) (P : ℕ → Type 0) where
  -- a fork on the line below n that is worth least, and the lowest such
  abbrev Found : ℕ → Fork → Type 0
  Found n fork = Least f P n fork.line × (fork.cost ≡ f fork.line)

  -- among the lines below n there is none yet, or the best is found
  abbrev Upto : ℕ → Option Fork → Type 0
  Upto n pick = MatchOption pick ((j : ℕ) → j < n → P j → ⊥) (Found n)

  -- a line of the kind: none was found before, it is cheaper, or the old one stays
  upto_take : (n : ℕ) (pick : Option Fork) (fork : Fork) → P n → fork.line ≡ n → fork.cost ≡ f n → Upto n pick → Upto (suc n) (cheaper_of pick (Some fork))
  upto_take n None fork here at is none = (subst (Least f P (suc n)) (sym at) (least_first f P n none here), is ∙ ap f (sym at))
  upto_take n (Some best) fork here at is (least, priced) = go (cases_lt fork.cost best.cost)
    where
      go : (fork.cost < best.cost) ⊎ (best.cost ≤ fork.cost) → Upto (suc n) (Some (cond (ltb fork.cost best.cost) fork best))
      go (inl l) =
          subst (λ (b : Bool). Upto (suc n) (Some (cond b fork best))) (sym (lt-ltb fork.cost best.cost l))
          (subst (Least f P (suc n)) (sym at) (least_better f P n best.line least here (omega (arith, l, is, priced))), is ∙ ap f (sym at))
      go (inr l) =
          subst (λ (b : Bool). Upto (suc n) (Some (cond b fork best))) (sym (le-ltb fork.cost best.cost l))
          (least_kept f P n best.line least (omega (arith, l, is, priced)), priced)

  -- a line that is not of the kind
  upto_skip : (n : ℕ) (pick : Option Fork) → (P n → ⊥) → Upto n pick → Upto (suc n) (cheaper_of pick None)
  upto_skip n None out none = none_more P n none out
  upto_skip n (Some best) out (least, priced) = (least_skipped f P n best.line least out, priced)

module _ (price : Price) (lines : List Line) (best : ℕ → ℕ) (cell : ℕ) where
  -- the fork on a line, if the line is free
  abbrev pub fork_at : ℕ → Option Fork
  fork_at i = cond (ltb i 6 && eqb (digit cell i) 0) (Some (record { line = i; cost = fork_price price lines best cell i })) None

  -- what is on a line is just that, if it is told by cases
  pub fork_is : (i : ℕ) (pick : Option Fork) → MatchOption pick (Free cell i → ⊥) (λ fork. Free cell i × (fork.line ≡ i) × (fork.cost ≡ fork_price price lines best cell i)) → pick ≡ fork_at i
  fork_is i None out = go (cases_lt i 6)
    where
      fork : Fork
      fork = record { line = i; cost = fork_price price lines best cell i }

      go : (i < 6) ⊎ (6 ≤ i) → None ≡ fork_at i
      go (inl l) =
          sym (ap (λ (b : Bool). cond (b && eqb (digit cell i) 0) (Some fork) None) (lt-ltb i 6 l)
          ∙ ap (λ (b : Bool). cond b (Some fork) None) (ne_eqb (digit cell i) 0 (λ z. out (l, z))))
      go (inr l) = sym (ap (λ (b : Bool). cond (b && eqb (digit cell i) 0) (Some fork) None) (le-ltb i 6 l))
  fork_is i (Some fork) (free, at, is) =
      ap₂ (λ (l c : ℕ). Some (record { line = l; cost = c })) at is
      ∙ sym (ap (λ (b : Bool). cond (b && eqb (digit cell i) 0) (Some (record { line = i; cost = fork_price price lines best cell i })) None) (lt-ltb i 6 free.0)
      ∙ ap (λ (b : Bool). cond b (Some (record { line = i; cost = fork_price price lines best cell i })) None) (eq-eqb (digit cell i) 0 free.1))

  abbrev Zero : ℕ → Type 0
  Zero j = digit cell j ≡ 0

  -- the cheapest on the lines below n
  abbrev cheapest_below : ℕ → Option Fork
  cheapest_below n = fold cheaper_of None (map fork_at (range_with_len 0 n))

  cheapest_more : (n : ℕ) (pick : Option Fork) → fork_at n ≡ pick → cheapest_below (suc n) ≡ cheaper_of (cheapest_below n) pick
  cheapest_more n pick e =
      ap (λ (xs : List ℕ). fold cheaper_of None (map fork_at xs)) (numbers_more n)
      ∙ ap (fold cheaper_of None) (map_push fork_at (range_with_len 0 n) n)
      ∙ fold-append cheaper_of None (map fork_at (range_with_len 0 n)) (fork_at n ∷ [])
      ∙ ap (cheaper_of (cheapest_below n)) e

  scan : (n : ℕ) → n ≤ 6 → Upto (fork_price price lines best cell) Zero n (cheapest_below n)
  scan zero l = λ j k. absurd (not-suc-le-zero k)
  scan (suc n) l = go (cases_eq (digit cell n) 0) (scan n (omega arith))
    where
      fork : Fork
      fork = record { line = n; cost = fork_price price lines best cell n }

      on_line : (b : Bool) → eqb (digit cell n) 0 ≡ b → fork_at n ≡ cond b (Some fork) None
      on_line b e = ap (λ (t : Bool). cond (t && eqb (digit cell n) 0) (Some fork) None) (lt-ltb n 6 (omega arith)) ∙ ap (λ (t : Bool). cond t (Some fork) None) e

      go : (digit cell n ≡ 0) ⊎ (digit cell n ≡ 0 → ⊥) → Upto (fork_price price lines best cell) Zero n (cheapest_below n) → Upto (fork_price price lines best cell) Zero (suc n) (cheapest_below (suc n))
      go (inl z) before =
          subst (Upto (fork_price price lines best cell) Zero (suc n)) (sym (cheapest_more n (Some fork) (on_line true (eq-eqb (digit cell n) 0 z))))
          (upto_take (fork_price price lines best cell) Zero n (cheapest_below n) fork z refl refl before)
      go (inr nz) before =
          subst (Upto (fork_price price lines best cell) Zero (suc n)) (sym (cheapest_more n None (on_line false (ne_eqb (digit cell n) 0 nz))))
          (upto_skip (fork_price price lines best cell) Zero n (cheapest_below n) nz before)

  -- once all six lines are seen, the best is found, where some line is free
  pub scanned : (pick : Option Fork) → pick ≡ cheapest_below 6 → MatchOption pick (free_in cell ≡ 0) (LeastFork price lines best cell)
  scanned pick e = go pick (subst (Upto (fork_price price lines best cell) Zero 6) (sym e) (scan 6 (omega arith)))
    where
      go : (p : Option Fork) → Upto (fork_price price lines best cell) Zero 6 p → MatchOption p (free_in cell ≡ 0) (LeastFork price lines best cell)
      go None none = free_none cell none
      go (Some fork) (least, priced) = record {
        lowest_best = record { free = (least.under, least.fits); least = λ j h. least.least j h.0 h.1; lowest = λ j l h. least.lowest j l h.1 };
        priced = priced;
      }
