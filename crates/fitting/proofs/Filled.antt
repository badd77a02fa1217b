-- The tables of best costs and chosen lines, filled from a cell on.
use Rattle.std.proofs.Common.{◌≡◌, ℕ, zero, suc, ◌+◌, ◌<◌, ◌≤◌, ◌⊎◌, List, Option, None, Some, length, get_or, set, sym, refl, ap, ◌∙◌, subst, subst₂, inl, inr, le_trans, le_of_eq, arith}
use native.Mathlib.Nat.{suc_inj}
use Rattle.std.proofs.lemmas.List.{length-set, get_or-set_same, get_or-set_other}
use Rattle.std.proofs.lemmas.Bool.{cases_eq}
use Rattle.std.specs.Option.{IsSomeAnd, unwrap_or}
use Rattle.events.specs.Cells.{Free, free_in, on_cell, off_cell}
use Rattle.events.proofs.CellLaws.{free_le}
use Rattle.rules.specs.declared.Line.{Line}
use Rattle.rules.specs.automata.Rules.{LineInRange, line_of}
use Rattle.rules.specs.trees.Costs.{Price, Lawful, bound}
use Rattle.rules.specs.trees.Bests.{Constant, fork_price, LowestBest, Bests}
use Rattle.rules.proofs.trees.BestLaws.{on_below, off_below}
use Rattle.rules.proofs.trees.BestTable.{Entry, From, above_on, above_off, from_all, from_step, same_price, entry_constant}
use Rattle.rules.proofs.trees.ConstantLaws.{constant_decided}
use Rattle.fitting.specs.declared.best.Fork.{Fork}
use Rattle.fitting.specs.Tables.{value_at, line_at, SmallAfter, LeastFork, Picked, Chosen}

-- ---- costs are within their bounds

module _ (price : Price) (lines : List Line) (wants best line : ℕ → ℕ) (n : ℕ) (law : Lawful price)
    (range : (i : ℕ) → i < 6 → LineInRange (line_of lines i)) (from : From price lines wants n best line) where
  small_fork : (u cell i : ℕ) → cell < 729 → free_in cell ≡ suc u → LowestBest price lines best cell i → best cell ≡ fork_price price lines best cell i
      → best (on_cell cell i) ≤ bound u → best (off_cell cell i) ≤ bound u → best cell ≤ bound (suc u)
  small_fork u cell i low is lowest cost on off =
      let at = range i lowest.free.0 in
      le_trans
      (le_of_eq (cost ∙ ap (λ (m : ℕ). price (line_of lines i).cost (line_of lines i).chance m (best (on_cell cell i)) (best (off_cell cell i))) is))
      (law.bounded _ _ u _ _ (record { c_low = at.cost_low; c_high = at.cost_high; p_high = at.chance_high; u_high = omega (arith, free_le cell, is); on_high = on; off_high = off }))

  -- the costs from n on are within the bounds for the lines left free
  pub small_from : (u cell : ℕ) → free_in cell ≡ u → n ≤ cell → cell < 729 → best cell ≤ bound u
  small_from zero cell is above low = go (constant_decided wants cell)
    where
      go : Constant wants cell ⊎ (Constant wants cell → ⊥) → best cell ≤ bound 0
      go (inl same) = le_of_eq ((from cell low above).constant same)
      go (inr varies) = absurd (let fewer = (on_below cell (line cell) low ((from cell low above).forked varies).0.free).fewer in let no_way : ⊥ = omega arith in no_way)
  small_from (suc u) cell is above low = go (constant_decided wants cell) (λ k. small_from u k)
    where
      go : Constant wants cell ⊎ (Constant wants cell → ⊥) → ((k : ℕ) → free_in k ≡ u → n ≤ k → k < 729 → best k ≤ bound u) → best cell ≤ bound (suc u)
      go (inl same) ih = let z = (from cell low above).constant same in omega arith
      go (inr varies) ih =
          let (lowest, cost) = (from cell low above).forked varies in
          let on_b = on_below cell (line cell) low lowest.free in
          let off_b = off_below cell (line cell) low lowest.free in
          small_fork u cell (line cell) low is lowest cost
          (ih (on_cell cell (line cell)) (suc_inj (on_b.fewer ∙ is)) (omega (arith, above, above_on cell (line cell))) on_b.low)
          (ih (off_cell cell (line cell)) (suc_inj (off_b.fewer ∙ is)) (omega (arith, above, above_off cell (line cell))) off_b.low)

-- ---- one cell more

-- the tables are filled from a cell on
pub record Filled (price : Price) (lines : List Line) (wants : ℕ → ℕ) (costs : List ℕ) (chosen : List (Option ℕ)) (n : ℕ) : Type 0 where
  pub costs_long : length costs ≡ 729
  pub chosen_long : length chosen ≡ 729
  pub entries : From price lines wants n (value_at costs) (line_at chosen)
  pub no_line : (cell : ℕ) → n ≤ cell → cell < 729 → Constant wants cell → get_or chosen cell None ≡ None

pub filled_none : (price : Price) (lines : List Line) (wants : ℕ → ℕ) (costs : List ℕ) (chosen : List (Option ℕ)) → length costs ≡ 729 → length chosen ≡ 729 → Filled price lines wants costs chosen 729
filled_none price lines wants costs chosen lc lk = record {
  costs_long = lc;
  chosen_long = lk;
  entries = λ cell low above. absurd (let no_way : ⊥ = omega arith in no_way);
  no_line = λ cell above low. absurd (let no_way : ⊥ = omega arith in no_way);
}

-- what is written for a pick: its cost and its line
abbrev pub cost_in : Option Fork → ℕ
cost_in None = 0
cost_in (Some fork) = fork.cost

abbrev pub line_in : Option Fork → Option ℕ
line_in None = None
line_in (Some fork) = Some fork.line

module _ (price : Price) (lines : List Line) (wants : ℕ → ℕ) (costs : List ℕ) (chosen : List (Option ℕ)) (k : ℕ) (filled : Filled price lines wants costs chosen (k + 1)) (low : k < 729) where
  -- the costs after the next cell are small
  pub small_after : Lawful price → ((i : ℕ) → i < 6 → LineInRange (line_of lines i)) → SmallAfter (value_at costs) k
  small_after law range cell above l = small_from price lines wants (value_at costs) (line_at chosen) (k + 1) law range filled.entries (free_in cell) cell refl (omega arith) l

  module _ (cost : ℕ) (line : Option ℕ) where
    -- the entries behind the next cell stay
    same_cost : (x : ℕ) → k < x → value_at (set costs k cost) x ≡ value_at costs x
    same_cost x l = get_or-set_other costs k x cost 0 (λ e. let no_way : ⊥ = omega arith in no_way)

    same_line : (x : ℕ) → k < x → line_at (set chosen k line) x ≡ line_at chosen x
    same_line x l = ap (λ (o : Option ℕ). unwrap_or o 6) (get_or-set_other chosen k x line None (λ e. let no_way : ⊥ = omega arith in no_way))

    -- and the cell has what is written
    cost_there : value_at (set costs k cost) k ≡ cost
    cost_there = get_or-set_same costs k cost 0 (omega (arith, filled.costs_long))

    line_there : get_or (set chosen k line) k None ≡ line
    line_there = get_or-set_same chosen k line None (omega (arith, filled.chosen_long))

    from_entry : Entry price lines wants (value_at (set costs k cost)) (line_at (set chosen k line)) k → From price lines wants k (value_at (set costs k cost)) (line_at (set chosen k line))
    from_entry = from_step price lines wants k (value_at costs) (line_at chosen) (value_at (set costs k cost)) (line_at (set chosen k line))
        (λ cell l above. filled.entries cell l (omega arith)) (λ x l. (same_cost x l, same_line x l))

    no_line_after : (Constant wants k → line ≡ None) → (cell : ℕ) → k ≤ cell → cell < 729 → Constant wants cell → get_or (set chosen k line) cell None ≡ None
    no_line_after none cell above l same = go (cases_eq cell k)
      where
        go : (cell ≡ k) ⊎ (cell ≡ k → ⊥) → get_or (set chosen k line) cell None ≡ None
        go (inl e) = ap (λ (n : ℕ). get_or (set chosen k line) n None) e ∙ line_there ∙ none (subst (Constant wants) e same)
        go (inr ne) = get_or-set_other chosen k cell line None ne ∙ filled.no_line cell (omega arith) l same

  -- the entry of a constant cell
  entry_none : Constant wants k → Entry price lines wants (value_at (set costs k 0)) (line_at (set chosen k None)) k
  entry_none same = entry_constant price lines wants (value_at (set costs k 0)) (line_at (set chosen k None)) k same (cost_there 0 None)

  -- the entry of any other, whose least fork is priced from the costs behind it
  entry_some : (fork : Fork) → (Constant wants k → ⊥) → LeastFork price lines (value_at costs) k fork → Entry price lines wants (value_at (set costs k fork.cost)) (line_at (set chosen k (Some fork.line))) k
  entry_some fork varies least = record {
    constant = λ same. absurd (varies same);
    forked = λ _. subst (λ (i : ℕ). LowestBest price lines best' k i × (best' k ≡ fork_price price lines best' k i)) (sym at) (lowest', cost_there fork.cost (Some fork.line) ∙ least.priced ∙ prices fork.line);
  }
    where
      best' : ℕ → ℕ
      best' = value_at (set costs k fork.cost)

      at : line_at (set chosen k (Some fork.line)) k ≡ fork.line
      at = ap (λ (o : Option ℕ). unwrap_or o 6) (line_there fork.cost (Some fork.line))

      prices : (i : ℕ) → fork_price price lines (value_at costs) k i ≡ fork_price price lines best' k i
      prices i = same_price price lines wants (value_at costs) best' k i (same_cost fork.cost (Some fork.line))

      lowest' : LowestBest price lines best' k fork.line
      lowest' = record {
        free = least.lowest_best.free;
        least = λ j f. subst₂ (λ (x y : ℕ). x ≤ y) (prices fork.line) (prices j) (least.lowest_best.least j f);
        lowest = λ j l f. subst₂ (λ (x y : ℕ). x < y) (prices fork.line) (prices j) (least.lowest_best.lowest j l f);
      }

  -- the entry that is picked for the next cell is written
  pub filled_more : (pick : Option Fork) → Picked price lines wants (value_at costs) k pick → Filled price lines wants (set costs k (cost_in pick)) (set chosen k (line_in pick)) k
  filled_more None same = record {
    costs_long = length-set costs k 0 ∙ filled.costs_long;
    chosen_long = length-set chosen k None ∙ filled.chosen_long;
    entries = from_entry 0 None (entry_none same);
    no_line = no_line_after 0 None (λ _. refl);
  }
  filled_more (Some fork) (varies, least) = record {
    costs_long = length-set costs k fork.cost ∙ filled.costs_long;
    chosen_long = length-set chosen k (Some fork.line) ∙ filled.chosen_long;
    entries = from_entry fork.cost (Some fork.line) (entry_some fork varies least);
    no_line = no_line_after fork.cost (Some fork.line) (λ same. absurd (varies same));
  }

-- ---- all cells

module _ (price : Price) (lines : List Line) (wants : ℕ → ℕ) (costs : List ℕ) (chosen : List (Option ℕ)) (filled : Filled price lines wants costs chosen 0) where
  pub filled_bests : Bests price lines wants (value_at costs) (line_at chosen)
  filled_bests = from_all price lines wants (value_at costs) (line_at chosen) filled.entries

  -- a free line is a line
  some_line : (pick : Option ℕ) (P : ℕ → Type 0) → ((i : ℕ) → P i → i < 6) → P (unwrap_or pick 6) → IsSomeAnd pick P
  some_line None P low h = absurd (let l = low 6 h in let no_way : ⊥ = omega (arith, l) in no_way)
  some_line (Some i) P low h = h

  pub filled_chosen : Chosen wants chosen
  filled_chosen = record {
    no_line = λ cell l. filled.no_line cell (omega arith) l;
    free = λ cell l varies. some_line (get_or chosen cell None) (Free cell) (λ i free. free.0) ((filled.entries cell l (omega arith)).forked varies).0.free;
  }
