-- The tables of best costs and lines, filled from the last cell down: the cells below a cell have higher numbers.
use Rattle.std.proofs.Common.{◌≡◌, ℕ, zero, suc, ◌+◌, ◌<◌, ◌≤◌, cond, eqb, ◌⊎◌, List, length, get_or, set, sym, refl, ap, ◌∙◌, subst, ap₂, subst₂, inl, inr, le_refl, not-suc-le-zero, arith, lit≤}
use native.Mathlib.Nat.{one-le-pow}
use Rattle.std.proofs.lemmas.List.{get_or-set_same, get_or-set_other}
use Rattle.std.proofs.lemmas.Bool.{cases_eq, cases_lt, eq-eqb, ne_eqb, cond-true, cond-false}
use Rattle.rules.specs.declared.Line.{Line}
use Rattle.events.specs.Cells.{digit, free_in, on_cell, off_cell}
use Rattle.rules.specs.automata.Rules.{line_of}
use Rattle.rules.specs.trees.Costs.{Price}
use Rattle.rules.specs.trees.Bests.{Constant, fork_price, LowestBest, Bests}
use Rattle.rules.proofs.trees.ConstantLaws.{full_constant, constant_decided}
use Rattle.events.proofs.CellLaws.{free_none}

-- ---- the lowest place of the least value

pub record Least (f : ℕ → ℕ) (P : ℕ → Type 0) (n i : ℕ) : Type 0 where
  pub under : i < n
  pub fits : P i
  pub least : (j : ℕ) → j < n → P j → f i ≤ f j
  pub lowest : (j : ℕ) → j < i → P j → f i < f j

-- one place more: it is worth less than the best so far
pub least_better : (f : ℕ → ℕ) (P : ℕ → Type 0) (n i : ℕ) → Least f P n i → P n → f n < f i → Least f P (suc n) n
least_better f P n i h here l = record {
  under = le_refl (suc n);
  fits = here;
  least = λ j lj p. at j lj p (cases_eq j n);
  lowest = λ j lj p. omega (arith, l, h.least j lj p);
}
  where
    at : (j : ℕ) → j < suc n → P j → (j ≡ n) ⊎ (j ≡ n → ⊥) → f n ≤ f j
    at j lj p (inl e) = subst (λ (k : ℕ). f n ≤ f k) (sym e) (le_refl (f n))
    at j lj p (inr ne) = omega (arith, l, h.least j (omega arith) p)

-- it is worth no less
pub least_kept : (f : ℕ → ℕ) (P : ℕ → Type 0) (n i : ℕ) → Least f P n i → f i ≤ f n → Least f P (suc n) i
least_kept f P n i h l = record { under = omega (arith, h.under); fits = h.fits; least = λ j lj p. at j lj p (cases_eq j n); lowest = h.lowest }
  where
    at : (j : ℕ) → j < suc n → P j → (j ≡ n) ⊎ (j ≡ n → ⊥) → f i ≤ f j
    at j lj p (inl e) = subst (λ (k : ℕ). f i ≤ f k) (sym e) l
    at j lj p (inr ne) = h.least j (omega arith) p

-- it is not of the kind
pub least_skipped : (f : ℕ → ℕ) (P : ℕ → Type 0) (n i : ℕ) → Least f P n i → (P n → ⊥) → Least f P (suc n) i
least_skipped f P n i h out = record { under = omega (arith, h.under); fits = h.fits; least = λ j lj p. h.least j (below j lj (λ e. out (subst P e p))) p; lowest = h.lowest }
  where
    below : (j : ℕ) → j < suc n → (j ≡ n → ⊥) → j < n
    below j lj ne = omega arith

-- it is the first of the kind
pub least_first : (f : ℕ → ℕ) (P : ℕ → Type 0) (n : ℕ) → ((j : ℕ) → j < n → P j → ⊥) → P n → Least f P (suc n) n
least_first f P n none here = record { under = le_refl (suc n); fits = here; least = λ j lj p. at j lj p (cases_eq j n); lowest = λ j lj p. absurd (none j lj p) }
  where
    at : (j : ℕ) → j < suc n → P j → (j ≡ n) ⊎ (j ≡ n → ⊥) → f n ≤ f j
    at j lj p (inl e) = subst (λ (k : ℕ). f n ≤ f k) (sym e) (le_refl (f n))
    at j lj p (inr ne) = absurd (none j (omega arith) p)

-- and there is none yet
pub none_more : (P : ℕ → Type 0) (n : ℕ) → ((j : ℕ) → j < n → P j → ⊥) → (P n → ⊥) → (j : ℕ) → j < suc n → P j → ⊥
none_more P n none out j l p = at (cases_eq j n)
  where
    at : (j ≡ n) ⊎ (j ≡ n → ⊥) → ⊥
    at (inl e) = out (subst P e p)
    at (inr ne) = none j (omega arith) p

least_step : (f : ℕ → ℕ) (P : ℕ → Type 0) (n : ℕ) → ((i : ℕ) × Least f P n i) ⊎ ((j : ℕ) → j < n → P j → ⊥) → P n ⊎ (P n → ⊥)
    → ((i : ℕ) × Least f P (suc n) i) ⊎ ((j : ℕ) → j < suc n → P j → ⊥)
least_step f P n (inl (i, h)) (inl here) = go (cases_lt (f n) (f i))
  where
    go : (f n < f i) ⊎ (f i ≤ f n) → ((i : ℕ) × Least f P (suc n) i) ⊎ ((j : ℕ) → j < suc n → P j → ⊥)
    go (inl l) = inl (n, least_better f P n i h here l)
    go (inr l) = inl (i, least_kept f P n i h l)
least_step f P n (inl (i, h)) (inr out) = inl (i, least_skipped f P n i h out)
least_step f P n (inr none) (inl here) = inl (n, least_first f P n none here)
least_step f P n (inr none) (inr out) = inr (none_more P n none out)

pub least_of : (f : ℕ → ℕ) (P : ℕ → Type 0) → ((i : ℕ) → P i ⊎ (P i → ⊥)) → (n : ℕ) → ((i : ℕ) × Least f P n i) ⊎ ((j : ℕ) → j < n → P j → ⊥)
least_of f P dec zero = inr (λ j l. absurd (not-suc-le-zero l))
least_of f P dec (suc n) = least_step f P n (least_of f P dec n) (dec n)

pub above_on : (cell i : ℕ) → cell < on_cell cell i
above_on cell i = omega (arith, one-le-pow i 3 (lit≤ tt))

pub above_off : (cell i : ℕ) → cell < off_cell cell i
above_off cell i = omega (arith, one-le-pow i 3 (lit≤ tt))

module _ (price : Price) (lines : List Line) (wants : ℕ → ℕ) where
  -- the entries of one cell are right
  pub record Entry (best line : ℕ → ℕ) (cell : ℕ) : Type 0 where
    pub constant : Constant wants cell → best cell ≡ 0
    pub forked : (Constant wants cell → ⊥) → LowestBest price lines best cell (line cell) × (best cell ≡ fork_price price lines best cell (line cell))

  -- the entries from a cell on are right
  abbrev pub From : ℕ → (ℕ → ℕ) → (ℕ → ℕ) → Type 0
  From k best line = (cell : ℕ) → cell < 729 → k ≤ cell → Entry best line cell

  pub from_all : (best line : ℕ → ℕ) → From 0 best line → Bests price lines wants best line
  from_all best line h = record { constant = λ cell l. (h cell l (omega arith)).constant; forked = λ cell l. (h cell l (omega arith)).forked }

  -- an entry looks only at the cell's own entry and at those of higher cells
  pub same_price : (best best' : ℕ → ℕ) (cell i : ℕ) → ((c : ℕ) → cell < c → best' c ≡ best c) → fork_price price lines best cell i ≡ fork_price price lines best' cell i
  same_price best best' cell i same = ap₂ (λ (x y : ℕ). price (line_of lines i).cost (line_of lines i).chance (free_in cell) x y)
      (sym (same (on_cell cell i) (above_on cell i))) (sym (same (off_cell cell i) (above_off cell i)))

  pub entry_kept : (best line best' line' : ℕ → ℕ) (cell : ℕ) → ((c : ℕ) → cell ≤ c → best' c ≡ best c) → line' cell ≡ line cell → Entry best line cell → Entry best' line' cell
  entry_kept best line best' line' cell same same_line h = record {
    constant = λ c. same cell (le_refl cell) ∙ h.constant c;
    forked = λ varies. let (low, cost) = h.forked varies in (
      subst (LowestBest price lines best' cell) (sym same_line) (record {
        free = low.free;
        least = λ j f. subst₂ (λ (x y : ℕ). x ≤ y) (prices (line cell)) (prices j) (low.least j f);
        lowest = λ j l f. subst₂ (λ (x y : ℕ). x < y) (prices (line cell)) (prices j) (low.lowest j l f);
      }),
      same cell (le_refl cell) ∙ (cost ∙ (prices (line cell) ∙ ap (fork_price price lines best' cell) (sym same_line))),
    );
  }
    where
      prices : (i : ℕ) → fork_price price lines best cell i ≡ fork_price price lines best' cell i
      prices i = same_price best best' cell i (λ c l. same c (native.Mathlib.Nat.le_of_lt l))

  -- a right entry at k, with those above kept, is right from k on
  pub from_step : (k : ℕ) (best line best' line' : ℕ → ℕ) → From (suc k) best line → ((c : ℕ) → k < c → (best' c ≡ best c) × (line' c ≡ line c)) → Entry best' line' k → From k best' line'
  from_step k best line best' line' from same here cell l lk = go (cases_eq k cell)
    where
      go : (k ≡ cell) ⊎ (k ≡ cell → ⊥) → Entry best' line' cell
      go (inl e) = subst (Entry best' line') e here
      go (inr ne) = entry_kept best line best' line' cell (λ c lc. (same c (omega arith)).0) (same cell (omega arith)).1 (from cell l (omega arith))

  -- the entry to write: 0 where the cell is constant, and otherwise the least price and the lowest line that has it
  pub entry_constant : (best line : ℕ → ℕ) (k : ℕ) → Constant wants k → best k ≡ 0 → Entry best line k
  entry_constant best line k c z = record { constant = λ x. z; forked = λ varies. absurd (varies c) }

  pub entry_forked : (best line : ℕ → ℕ) (k : ℕ) → (Constant wants k → ⊥) → Least (fork_price price lines best k) (λ i. digit k i ≡ 0) 6 (line k) → best k ≡ fork_price price lines best k (line k) → Entry best line k
  entry_forked best line k varies h cost = record {
    constant = λ c. absurd (varies c);
    forked = λ x. (record { free = (h.under, h.fits); least = λ j f. h.least j f.0 f.1; lowest = λ j l f. h.lowest j l f.1 }, cost);
  }

  -- a cell that varies has a free line
  pub varies_free : (f : ℕ → ℕ) (k : ℕ) → (Constant wants k → ⊥) → (i : ℕ) × Least f (λ i. digit k i ≡ 0) 6 i
  varies_free f k varies = go (least_of f (λ i. digit k i ≡ 0) (λ i. cases_eq (digit k i) 0) 6)
    where
      go : ((i : ℕ) × Least f (λ i. digit k i ≡ 0) 6 i) ⊎ ((j : ℕ) → j < 6 → digit k j ≡ 0 → ⊥) → (i : ℕ) × Least f (λ i. digit k i ≡ 0) 6 i
      go (inl h) = h
      go (inr none) = absurd (varies (full_constant wants k (free_none k none)))

  -- ---- the same for two arrays, written at place k

  abbrev pub at : List ℕ → ℕ → ℕ
  at xs c = get_or xs c 0

  from_suc : (k : ℕ) (best line : ℕ → ℕ) → From (k + 1) best line → From (suc k) best line
  from_suc k best line from cell l lk = from cell l (omega arith)

  -- a constant cell: 0 is written, and the chosen lines stay
  pub array_constant : (costs chosen : List ℕ) (k : ℕ) → k < length costs → From (k + 1) (at costs) (at chosen) → Constant wants k → From k (at (set costs k 0)) (at chosen)
  array_constant costs chosen k l from c = from_step k (at costs) (at chosen) (at (set costs k 0)) (at chosen) (from_suc k (at costs) (at chosen) from)
      (λ x lx. (get_or-set_other costs k x 0 0 (λ e. let no_way : ⊥ = omega arith in no_way), refl))
      (entry_constant (at (set costs k 0)) (at chosen) k c (get_or-set_same costs k 0 0 l))

  -- any other cell: the least price and the lowest line that has it are written
  pub array_forked : (costs chosen : List ℕ) (k i : ℕ) → k < length costs → k < length chosen → From (k + 1) (at costs) (at chosen) → (Constant wants k → ⊥)
      → Least (fork_price price lines (at costs) k) (λ j. digit k j ≡ 0) 6 i → From k (at (set costs k (fork_price price lines (at costs) k i))) (at (set chosen k i))
  array_forked costs chosen k i lc lk from varies h = from_step k (at costs) (at chosen) best' line' (from_suc k (at costs) (at chosen) from)
      (λ x lx. (other_cost x lx, get_or-set_other chosen k x i 0 (λ e. let no_way : ⊥ = omega arith in no_way)))
      (entry_forked best' line' k varies (subst (Least (fork_price price lines best' k) (λ j. digit k j ≡ 0) 6) (sym (get_or-set_same chosen k i 0 lk)) (record {
        under = h.under;
        fits = h.fits;
        least = λ j l p. subst₂ (λ (x y : ℕ). x ≤ y) (prices i) (prices j) (h.least j l p);
        lowest = λ j l p. subst₂ (λ (x y : ℕ). x < y) (prices i) (prices j) (h.lowest j l p);
      })) (get_or-set_same costs k (fork_price price lines (at costs) k i) 0 lc ∙ (prices i ∙ ap (fork_price price lines best' k) (sym (get_or-set_same chosen k i 0 lk)))))
    where
      best' : ℕ → ℕ
      best' = at (set costs k (fork_price price lines (at costs) k i))

      line' : ℕ → ℕ
      line' = at (set chosen k i)

      other_cost : (x : ℕ) → k < x → at (set costs k (fork_price price lines (at costs) k i)) x ≡ at costs x
      other_cost x lx = get_or-set_other costs k x (fork_price price lines (at costs) k i) 0 (λ e. let no_way : ⊥ = omega arith in no_way)

      prices : (j : ℕ) → fork_price price lines (at costs) k j ≡ fork_price price lines best' k j
      prices j = same_price (at costs) best' k j other_cost

  -- ---- so there are such tables

  put : (ℕ → ℕ) → ℕ → ℕ → ℕ → ℕ
  put f k x c = cond (eqb c k) x (f c)

  put_here : (f : ℕ → ℕ) (k x : ℕ) → put f k x k ≡ x
  unfolding put
  put_here f k x = cond-true (eqb k k) x (f k) (eq-eqb k k refl)

  put_other : (f : ℕ → ℕ) (k x c : ℕ) → k < c → put f k x c ≡ f c
  unfolding put
  put_other f k x c l = cond-false (eqb c k) x (f c) (ne_eqb c k (λ e. let no_way : ⊥ = omega arith in no_way))

  from_more : (k : ℕ) (best line : ℕ → ℕ) → From (suc k) best line → Constant wants k ⊎ (Constant wants k → ⊥) → (best' : ℕ → ℕ) × ((line' : ℕ → ℕ) × From k best' line')
  from_more k best line from (inl c) = (put best k 0, (line, from_step k best line (put best k 0) line from (λ x l. (put_other best k 0 x l, refl)) (entry_constant (put best k 0) line k c (put_here best k 0))))
  from_more k best line from (inr varies) =
      let (i, h) = varies_free (fork_price price lines best k) k varies in
      let cost = fork_price price lines best k i in
      (put best k cost, (put line k i, from_step k best line (put best k cost) (put line k i) from (λ x l. (put_other best k cost x l, put_other line k i x l)) (here i h)))
    where
      here : (i : ℕ) → Least (fork_price price lines best k) (λ i. digit k i ≡ 0) 6 i → Entry (put best k (fork_price price lines best k i)) (put line k i) k
      here i h = entry_forked best' line' k varies (subst (Least (fork_price price lines best' k) (λ i. digit k i ≡ 0) 6) (sym (put_here line k i)) (record {
        under = h.under;
        fits = h.fits;
        least = λ j l p. subst₂ (λ (x y : ℕ). x ≤ y) (prices i) (prices j) (h.least j l p);
        lowest = λ j l p. subst₂ (λ (x y : ℕ). x < y) (prices i) (prices j) (h.lowest j l p);
      }))
          (put_here best k (fork_price price lines best k i) ∙ (prices i ∙ ap (fork_price price lines best' k) (sym (put_here line k i))))
        where
          best' : ℕ → ℕ
          best' = put best k (fork_price price lines best k i)

          line' : ℕ → ℕ
          line' = put line k i

          prices : (j : ℕ) → fork_price price lines best k j ≡ fork_price price lines best' k j
          prices j = same_price best best' k j (λ c l. put_other best k (fork_price price lines best k i) c l)

  down : (n k : ℕ) → n + k ≡ 729 → (best : ℕ → ℕ) × ((line : ℕ → ℕ) × From k best line)
  down zero k e = ((λ c. 0), ((λ c. 0), λ cell l lk. absurd (let no_way : ⊥ = omega arith in no_way)))
  down (suc n) k e = let (best, (line, from)) = down n (suc k) (omega arith) in from_more k best line from (constant_decided wants k)

  pub bests_some : (best : ℕ → ℕ) × ((line : ℕ → ℕ) × Bests price lines wants best line)
  bests_some = let (best, (line, from)) = down 729 0 refl in (best, (line, from_all best line from))
