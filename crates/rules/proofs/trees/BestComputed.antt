-- The table of best costs and lines, and the best tree, as programs that can be run; each is proved to be what the definitions say.
use Rattle.std.proofs.Common.{◌≡◌, ℕ, zero, suc, ◌-◌, ◌<◌, ◌≤◌, Bool, true, false, T, eqb, leb, ◌⊎◌, ◌↔◌, List, [], ◌∷◌, get_or, sym, refl, ap, ◌∙◌, subst, subst₂, inl, inr, le_refl, not-suc-le-zero, arith, lit≤, le→leb, eqb→eq, leb→le}
use Rattle.std.proofs.lemmas.Bool.{cases_eq, cases_lt, eq-eqb}
use Rattle.rules.specs.declared.Line.{Line}
use Rattle.events.specs.Cells.{digit, Covers, covers, lowest, free_in, on_cell, off_cell}
use Rattle.rules.specs.trees.Trees.{Tree, leaf, fork}
use Rattle.rules.specs.trees.Costs.{Price}
use Rattle.rules.specs.trees.Bests.{Constant, fork_price, Bests, BestTree}
use Rattle.events.proofs.SetLaws.{true_T, false_T}
use Rattle.events.proofs.CellLaws.{covers_is, lowest_small, lowest-covered, free_le}
use Rattle.rules.proofs.trees.ConstantLaws.{full_constant}
use Rattle.rules.proofs.trees.BestLaws.{on_below, off_below}
use Rattle.rules.proofs.trees.BestTable.{Least, Entry, From, from_all, from_step, entry_constant, entry_forked, same_price, varies_free}

-- ---- the lowest place of the least value

abbrev any_below : (ℕ → Bool) → ℕ → Bool
any_below p zero = false
any_below p (suc n) = elim (p n) [ true ↦ true | false ↦ any_below p n ]

-- i where it is no worse than n, and n where nothing was found before
abbrev choose : Bool → Bool → ℕ → ℕ → ℕ
choose true true i n = i
choose true false i n = n
choose false c i n = n

abbrev least_below : (ℕ → ℕ) → (ℕ → Bool) → ℕ → ℕ
least_below f p zero = 0
least_below f p (suc n) = elim (p n) [ true ↦ (λ (i : ℕ). choose (any_below p n) (leb (f i) (f n)) i n) (least_below f p n) | false ↦ least_below f p n ]

any_is : (p : ℕ → Bool) (n : ℕ) → (j : ℕ) → j < n → T (p j) → T (any_below p n)
any_is p zero j l h = absurd (not-suc-le-zero l)
any_is p (suc n) j l h = go (p n) refl (cases_eq j n) (any_is p n j)
  where
    go : (b : Bool) → p n ≡ b → (j ≡ n) ⊎ (j ≡ n → ⊥) → (j < n → T (p j) → T (any_below p n)) → T (elim b [ true ↦ true | false ↦ any_below p n ])
    go true e d ih = tt
    go false e (inl q) ih = absurd (false_T (p n) e (subst (λ (k : ℕ). T (p k)) q h))
    go false e (inr ne) ih = ih (omega arith) h

module _ (f : ℕ → ℕ) (p : ℕ → Bool) where
  least_more : (n i : ℕ) → (T (any_below p n) → Least f (λ j. T (p j)) n i) → (b s c : Bool) → p n ≡ b → any_below p n ≡ s → leb (f i) (f n) ≡ c
      → T (elim b [ true ↦ true | false ↦ any_below p n ]) → Least f (λ j. T (p j)) (suc n) (elim b [ true ↦ choose s c i n | false ↦ i ])
  least_more n i ih true true true pn any le h = let old = ih (true_T (any_below p n) any) in record {
    under = omega (arith, old.under);
    fits = old.fits;
    least = λ j l pj. at j l pj (cases_eq j n);
    lowest = old.lowest;
  }
    where
      at : (j : ℕ) → j < suc n → T (p j) → (j ≡ n) ⊎ (j ≡ n → ⊥) → f i ≤ f j
      at j l pj (inl e) = subst (λ (k : ℕ). f i ≤ f k) (sym e) (leb→le (f i) (f n) (true_T (leb (f i) (f n)) le))
      at j l pj (inr ne) = (ih (true_T (any_below p n) any)).least j (omega arith) pj
  least_more n i ih true true false pn any le h = record {
    under = le_refl (suc n);
    fits = true_T (p n) pn;
    least = λ j l pj. at j l pj (cases_eq j n);
    lowest = λ j l pj. omega (arith, dearer, (ih (true_T (any_below p n) any)).least j l pj);
  }
    where
      dearer : f n < f i
      dearer = go (cases_lt (f n) (f i))
        where
          go : (f n < f i) ⊎ (f i ≤ f n) → f n < f i
          go (inl l) = l
          go (inr l) = absurd (false_T (leb (f i) (f n)) le (le→leb (f i) (f n) l))

      at : (j : ℕ) → j < suc n → T (p j) → (j ≡ n) ⊎ (j ≡ n → ⊥) → f n ≤ f j
      at j l pj (inl e) = subst (λ (k : ℕ). f n ≤ f k) (sym e) (le_refl (f n))
      at j l pj (inr ne) = omega (arith, dearer, (ih (true_T (any_below p n) any)).least j (omega arith) pj)
  least_more n i ih true false c pn any le h = record {
    under = le_refl (suc n);
    fits = true_T (p n) pn;
    least = λ j l pj. at j l pj (cases_eq j n);
    lowest = λ j l pj. absurd (false_T (any_below p n) any (any_is p n j l pj));
  }
    where
      at : (j : ℕ) → j < suc n → T (p j) → (j ≡ n) ⊎ (j ≡ n → ⊥) → f n ≤ f j
      at j l pj (inl e) = subst (λ (k : ℕ). f n ≤ f k) (sym e) (le_refl (f n))
      at j l pj (inr ne) = absurd (false_T (any_below p n) any (any_is p n j (omega arith) pj))
  least_more n i ih false s c pn any le h = let old = ih h in record {
    under = omega (arith, old.under);
    fits = old.fits;
    least = λ j l pj. old.least j (below j l pj (cases_eq j n)) pj;
    lowest = old.lowest;
  }
    where
      below : (j : ℕ) → j < suc n → T (p j) → (j ≡ n) ⊎ (j ≡ n → ⊥) → j < n
      below j l pj (inl e) = absurd (false_T (p n) pn (subst (λ (k : ℕ). T (p k)) e pj))
      below j l pj (inr ne) = omega arith

  least_is : (n : ℕ) → T (any_below p n) → Least f (λ j. T (p j)) n (least_below f p n)
  least_is zero h = absurd h
  least_is (suc n) h = least_more n (least_below f p n) (least_is n) (p n) (any_below p n) (leb (f (least_below f p n)) (f n)) refl refl refl h

-- ---- whether a cell is constant

abbrev same_below : (ℕ → ℕ) → ℕ → ℕ → ℕ → Bool
same_below wants cell v zero = true
same_below wants cell v (suc n) =
    elim (covers cell n) [ true ↦ elim (eqb (wants n) v) [ true ↦ same_below wants cell v n | false ↦ false ] | false ↦ same_below wants cell v n ]

abbrev is_constant : (ℕ → ℕ) → ℕ → Bool
is_constant wants cell = same_below wants cell (wants (lowest cell)) 64

same_is : (wants : ℕ → ℕ) (cell v n : ℕ) → T (same_below wants cell v n) ↔ ((e : ℕ) → e < n → Covers cell e → wants e ≡ v)
same_is wants cell v zero = ((λ h e l. absurd (not-suc-le-zero l)), (λ h. tt))
same_is wants cell v (suc n) = (
  (λ h. fwd (covers cell n) refl (eqb (wants n) v) refl h (same_is wants cell v n).0),
  (λ h. bwd (covers cell n) refl (eqb (wants n) v) refl h ((same_is wants cell v n).1 (λ e l c. h e (omega arith) c))),
)
  where
    fwd : (b : Bool) → covers cell n ≡ b → (c : Bool) → eqb (wants n) v ≡ c
        → T (elim b [ true ↦ elim c [ true ↦ same_below wants cell v n | false ↦ false ] | false ↦ same_below wants cell v n ])
        → (T (same_below wants cell v n) → (e : ℕ) → e < n → Covers cell e → wants e ≡ v) → (e : ℕ) → e < suc n → Covers cell e → wants e ≡ v
    fwd true p true q h ih e l cov = at (cases_eq e n)
      where
        at : (e ≡ n) ⊎ (e ≡ n → ⊥) → wants e ≡ v
        at (inl r) = ap wants r ∙ eqb→eq (wants n) v (true_T (eqb (wants n) v) q)
        at (inr ne) = ih h e (omega arith) cov
    fwd true p false q h ih e l cov = absurd h
    fwd false p c q h ih e l cov = at (cases_eq e n)
      where
        at : (e ≡ n) ⊎ (e ≡ n → ⊥) → wants e ≡ v
        at (inl r) = absurd (false_T (covers cell n) p ((covers_is cell n).1 (subst (Covers cell) r cov)))
        at (inr ne) = ih h e (omega arith) cov

    bwd : (b : Bool) → covers cell n ≡ b → (c : Bool) → eqb (wants n) v ≡ c → ((e : ℕ) → e < suc n → Covers cell e → wants e ≡ v) → T (same_below wants cell v n)
        → T (elim b [ true ↦ elim c [ true ↦ same_below wants cell v n | false ↦ false ] | false ↦ same_below wants cell v n ])
    bwd true p true q h ih = ih
    bwd true p false q h ih = absurd (false_T (eqb (wants n) v) q (true_T (eqb (wants n) v) (eq-eqb (wants n) v (h n (le_refl (suc n)) ((covers_is cell n).0 (true_T (covers cell n) p))))))
    bwd false p c q h ih = ih

constant_is : (wants : ℕ → ℕ) (cell : ℕ) → T (is_constant wants cell) ↔ Constant wants cell
constant_is wants cell = (
  (λ h a b la lb ca cb. let all = (same_is wants cell (wants (lowest cell)) 64).0 h in all a la ca ∙ sym (all b lb cb)),
  (λ h. (same_is wants cell (wants (lowest cell)) 64).1 (λ e l c. h e (lowest cell) l (lowest_small cell) c (lowest-covered cell))),
)

-- ---- the table

pub record Best : Type 0 where
  pub cost : ℕ
  pub line : ℕ

abbrev nothing : Best
nothing = record { cost = 0; line = 0 }

-- the entry of a fork on line i, by the prices of the lines
abbrev forked_on : (ℕ → ℕ) → ℕ → Best
forked_on f i = record { cost = f i; line = i }

module _ (price : Price) (lines : List Line) (wants : ℕ → ℕ) where
  -- the costs of the cells after a cell, from the entries of those cells
  abbrev after : ℕ → List Best → ℕ → ℕ
  after cell later c = (get_or later (c - suc cell) nothing).cost

  abbrev entry_of : ℕ → List Best → Best
  entry_of cell later = elim (is_constant wants cell) [
    | true ↦ nothing
    | false ↦ forked_on (fork_price price lines (after cell later) cell) (least_below (fork_price price lines (after cell later) cell) (λ i. eqb (digit cell i) 0) 6)
  ]

  -- the entries of the last k cells
  unfoldable pub fill : ℕ → List Best
  fill zero = []
  fill (suc k) = (λ (later : List Best). entry_of (729 - suc k) later ∷ later) (fill k)

  abbrev pub cost_in : List Best → ℕ → ℕ
  cost_in table c = (get_or table c nothing).cost

  abbrev pub line_in : List Best → ℕ → ℕ
  line_in table c = (get_or table c nothing).line

  -- the entry of a cell is right
  entry_is : (cell : ℕ) (later : List Best) (best line : ℕ → ℕ) → best cell ≡ (entry_of cell later).cost → line cell ≡ (entry_of cell later).line
      → ((c : ℕ) → cell < c → best c ≡ after cell later c) → Entry price lines wants best line cell
  entry_is cell later best line costs chosen same = go (is_constant wants cell) refl costs chosen
    where
      whole : Bool → Best
      whole b = elim b [
        | true ↦ nothing
        | false ↦ forked_on (fork_price price lines (after cell later) cell) (least_below (fork_price price lines (after cell later) cell) (λ i. eqb (digit cell i) 0) 6)
      ]

      go : (b : Bool) → is_constant wants cell ≡ b
          → best cell ≡ (whole b).cost → line cell ≡ (whole b).line
          → Entry price lines wants best line cell
      go true p z x = entry_constant price lines wants best line cell ((constant_is wants cell).0 (true_T (is_constant wants cell) p)) z
      go false p cost chose = entry_forked price lines wants best line cell varies least (cost ∙ (prices i ∙ ap (fork_price price lines best cell) (sym chose)))
        where
          i : ℕ
          i = least_below (fork_price price lines (after cell later) cell) (λ i. eqb (digit cell i) 0) 6

          varies : Constant wants cell → ⊥
          varies c = false_T (is_constant wants cell) p ((constant_is wants cell).1 c)

          prices : (j : ℕ) → fork_price price lines (after cell later) cell j ≡ fork_price price lines best cell j
          prices j = same_price price lines wants (after cell later) best cell j same

          free : T (any_below (λ i. eqb (digit cell i) 0) 6)
          free = let (j, h) = varies_free price lines wants (fork_price price lines (after cell later) cell) cell varies in
              any_is (λ i. eqb (digit cell i) 0) 6 j h.under (true_T (eqb (digit cell j) 0) (eq-eqb (digit cell j) 0 h.fits))

          found : Least (fork_price price lines (after cell later) cell) (λ j. T (eqb (digit cell j) 0)) 6 i
          found = least_is (fork_price price lines (after cell later) cell) (λ i. eqb (digit cell i) 0) 6 free

          is_free : (j : ℕ) → digit cell j ≡ 0 → T (eqb (digit cell j) 0)
          is_free j z = true_T (eqb (digit cell j) 0) (eq-eqb (digit cell j) 0 z)

          least : Least (fork_price price lines best cell) (λ j. digit cell j ≡ 0) 6 (line cell)
          least = subst (Least (fork_price price lines best cell) (λ j. digit cell j ≡ 0) 6) (sym chose) (record {
            under = found.under;
            fits = eqb→eq (digit cell i) 0 found.fits;
            least = λ j l z. subst₂ (λ (x y : ℕ). x ≤ y) (prices i) (prices j) (found.least j l (is_free j z));
            lowest = λ j l z. subst₂ (λ (x y : ℕ). x < y) (prices i) (prices j) (found.lowest j l (is_free j z));
          })

  abbrev cost_from : ℕ → List Best → ℕ → ℕ
  cost_from k table c = (get_or table (c - (729 - k)) nothing).cost

  abbrev line_from : ℕ → List Best → ℕ → ℕ
  line_from k table c = (get_or table (c - (729 - k)) nothing).line

  from_more : (k : ℕ) (later : List Best) → suc k ≤ 729 → From price lines wants (729 - k) (cost_from k later) (line_from k later)
      → From price lines wants (729 - suc k) (cost_from (suc k) (entry_of (729 - suc k) later ∷ later)) (line_from (suc k) (entry_of (729 - suc k) later ∷ later))
  from_more k later l from = from_step price lines wants cell (cost_from k later) (line_from k later) (cost_from (suc k) table) (line_from (suc k) table)
      (subst (λ (n : ℕ). From price lines wants n (cost_from k later) (line_from k later)) next from)
      (λ c lc. (ap (λ (n : ℕ). (get_or table n nothing).cost) (shift c lc), ap (λ (n : ℕ). (get_or table n nothing).line) (shift c lc)))
      (entry_is cell later (cost_from (suc k) table) (line_from (suc k) table)
      (ap (λ (n : ℕ). (get_or table n nothing).cost) here) (ap (λ (n : ℕ). (get_or table n nothing).line) here)
      (λ c lc. ap (λ (n : ℕ). (get_or table n nothing).cost) (shift c lc ∙ ap suc (ap (λ (n : ℕ). c - n) next))))
    where
      cell : ℕ
      cell = 729 - suc k

      table : List Best
      table = entry_of (729 - suc k) later ∷ later

      next : 729 - k ≡ suc (729 - suc k)
      next = omega arith

      here : (729 - suc k) - (729 - suc k) ≡ 0
      here = omega arith

      shift : (c : ℕ) → 729 - suc k < c → c - (729 - suc k) ≡ suc (c - (729 - k))
      shift c lc = omega arith

  fill_from : (k : ℕ) → k ≤ 729 → From price lines wants (729 - k) (cost_from k (fill k)) (line_from k (fill k))
  unfolding fill
  fill_from zero l = λ cell low above. absurd (let no_way : ⊥ = omega arith in no_way)
  fill_from (suc k) l = from_more k (fill k) l (fill_from k (omega arith))

  pub fill_bests : (n : ℕ) → n ≡ 729 → Bests price lines wants (cost_in (fill n)) (line_in (fill n))
  fill_bests n e = from_all price lines wants (cost_in (fill n)) (line_in (fill n)) all
    where
      all : From price lines wants 0 (cost_in (fill n)) (line_in (fill n))
      all = subst₂ (From price lines wants 0) (λ k c. (get_or (fill n) (same c k) nothing).cost) (λ k c. (get_or (fill n) (same c k) nothing).line)
          (subst (λ (m : ℕ). From price lines wants m (λ c. (get_or (fill n) (c - m) nothing).cost) (λ c. (get_or (fill n) (c - m) nothing).line)) none (fill_from n (omega arith)))
        where
          none : 729 - n ≡ 0
          none = omega arith

          same : (c : ℕ) → c - 0 ≡ c
          same c = omega arith

  -- ---- the best tree

  abbrev pub build : List Best → ℕ → ℕ → Tree
  build table zero cell = leaf (wants (lowest cell))
  build table (suc u) cell = elim (is_constant wants cell) [
    | true ↦ leaf (wants (lowest cell))
    | false ↦ (λ (i : ℕ). fork i (build table u (on_cell cell i)) (build table u (off_cell cell i))) (get_or table cell nothing).line
  ]

  constant_leaf : (line : ℕ → ℕ) (cell : ℕ) → Constant wants cell → BestTree wants line cell (leaf (wants (lowest cell)))
  constant_leaf line cell c e l cov = c e (lowest cell) l (lowest_small cell) cov (lowest-covered cell)

  build_best : (table : List Best) → Bests price lines wants (cost_in table) (line_in table) → (u cell : ℕ) → cell < 729 → free_in cell ≤ u → BestTree wants (line_in table) cell (build table u cell)
  build_best table bests zero cell l few = constant_leaf (line_in table) cell (full_constant wants cell (omega arith))
  build_best table bests (suc u) cell l few = go (is_constant wants cell) refl (build_best table bests u)
    where
      whole : Bool → Tree
      whole b = elim b [
        | true ↦ leaf (wants (lowest cell))
        | false ↦ fork (line_in table cell) (build table u (on_cell cell (line_in table cell))) (build table u (off_cell cell (line_in table cell)))
      ]

      go : (b : Bool) → is_constant wants cell ≡ b → ((cell : ℕ) → cell < 729 → free_in cell ≤ u → BestTree wants (line_in table) cell (build table u cell))
          → BestTree wants (line_in table) cell (whole b)
      go true p ih = constant_leaf (line_in table) cell ((constant_is wants cell).0 (true_T (is_constant wants cell) p))
      go false p ih =
          let varies : Constant wants cell → ⊥ = λ c. false_T (is_constant wants cell) p ((constant_is wants cell).1 c) in
          let free = (bests.forked cell l varies).0.free in
          let on_b = on_below cell (line_in table cell) l free in
          let off_b = off_below cell (line_in table cell) l free in (
            varies,
            refl,
            ih (on_cell cell (line_in table cell)) on_b.low (omega (arith, on_b.fewer, few)),
            ih (off_cell cell (line_in table cell)) off_b.low (omega (arith, off_b.fewer, few)),
          )

  -- the tree built from the whole table is the best tree in cell 0
  pub built : (n : ℕ) → n ≡ 729 → BestTree wants (line_in (fill n)) 0 (build (fill n) 6 0)
  built n e = build_best (fill n) (fill_bests n e) 6 0 (lit≤ tt) (free_le 0)
