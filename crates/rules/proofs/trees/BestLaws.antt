-- The best tree in a cell serves it at the best cost, and no other tree that polls no line twice serves it at a lower one.
use Rattle.std.proofs.Common.{◌≡◌, ℕ, zero, suc, ◌+◌, ◌*◌, ◌%◌, ◌^◌, ◌<◌, ◌≤◌, Bool, true, false, not, T, ◌⊎◌, List, sym, refl, ap, ◌∙◌, subst, ap₂, inl, inr, le_trans, le_of_eq, le_of_lt, one-mul, arith, lit≤}
use native.Mathlib.Nat.{suc_inj}
use lib.Bits.{bit_or}
use Rattle.std.proofs.lemmas.Bool.{cases_eq, cases_lt, cond_both, cond-true, cond-false}
use Rattle.rules.specs.declared.Line.{Line}
use Rattle.events.specs.Sets.{has, ◌∈◌}
use Rattle.events.specs.Cells.{digit, agrees, Covers, Free, free_in, on_cell, off_cell}
use Rattle.rules.specs.automata.Rules.{WellFormed, LineInRange, Rule, line_of}
use Rattle.rules.specs.automata.Pruning.{Wants, IsPrunedSet}
use Rattle.rules.specs.trees.Trees.{Tree, leaf, fork, gives, PollsOnce, Serves}
use Rattle.rules.specs.trees.Costs.{mean_cost, IsTrillionfold, Price, bound, cost_of, Cheapest, Lawful}
use Rattle.rules.specs.trees.Bests.{Fitted, Constant, fork_price, Bests, BestTree}
use Rattle.events.proofs.SetLaws.{T_true, true_T, ∈-or, ∈_one, ∈_one_is, ∈_none}
use Rattle.rules.proofs.automata.RuleLaws.{line_in_range}
use Rattle.rules.proofs.automata.PruningLaws.{pruned_one}
use Rattle.rules.proofs.trees.MeanCost.{mean_trillionfold}
use Rattle.events.proofs.CellLaws.{digit_at, digit_other, cell_below, covers_up, covers-line, covers_down, covers_all, free_below, free_le, free_whole}

low_zero : (n : ℕ) → 0 ≤ n
low_zero n = omega arith

-- ---- the two cells below a cell

pub record Below (cell i d child : ℕ) : Type 0 where
  pub low : child < 729
  pub fewer : suc (free_in child) ≡ free_in cell
  pub up : (e : ℕ) → Covers child e → Covers cell e
  pub line : (e : ℕ) → Covers child e → T (agrees d (has e i))
  pub down : (e : ℕ) → Covers cell e → T (agrees d (has e i)) → Covers child e
  pub at : digit child i ≡ d
  pub other : (j : ℕ) → (j ≡ i → ⊥) → digit child j ≡ digit cell j

below : (cell i d : ℕ) → cell < 729 → Free cell i → 0 < d → d < 3 → Below cell i d (cell + d * 3 ^ i)
below cell i d l (li, z) pos small = record {
  low = cell_below cell i d l li z small;
  fewer = free_below cell i d li z small pos;
  up = λ e. covers_up cell i d e li z small;
  line = λ e. covers-line cell i d e li z small;
  down = λ e. covers_down cell i d e z small;
  at = digit_at cell i d z small;
  other = λ j. digit_other cell i d j z small;
}

pub on_below : (cell i : ℕ) → cell < 729 → Free cell i → Below cell i 1 (on_cell cell i)
on_below cell i l f = subst (λ (n : ℕ). Below cell i 1 (cell + n)) (one-mul (3 ^ i)) (below cell i 1 l f (lit≤ tt) (lit≤ tt))

pub off_below : (cell i : ℕ) → cell < 729 → Free cell i → Below cell i 2 (off_cell cell i)
off_below cell i l f = below cell i 2 l f (lit≤ tt) (lit≤ tt)

-- ---- costs are within the bound

pub cost_bounded : (price : Price) (lines : List Line) → Lawful price → ((i : ℕ) → i < 6 → LineInRange (line_of lines i))
    → (t : Tree) (above u : ℕ) → u ≤ 6 → PollsOnce above t → cost_of price lines u t ≤ bound u
cost_bounded price lines law range (leaf set) above u l p = low_zero (bound u)
cost_bounded price lines law range (fork i on off) above zero l p = low_zero (bound 0)
cost_bounded price lines law range (fork i on off) above (suc u) l p = law.bounded _ _ u _ _ (record {
  c_low = (range i p.0).cost_low;
  c_high = (range i p.0).cost_high;
  p_high = (range i p.0).chance_high;
  u_high = l;
  on_high = cost_bounded price lines law range on (bit_or (2 ^ i) above) u (omega arith) p.2;
  off_high = cost_bounded price lines law range off (bit_or (2 ^ i) above) u (omega arith) p.3;
})

-- ---- no tree is cheaper than the best cost

-- the tree gives the wanted set at every event that the cell covers
abbrev pub Right : (ℕ → ℕ) → ℕ → Tree → Type 0
Right wants cell t = (e : ℕ) → e < 64 → Covers cell e → gives t e ≡ wants e

-- a line that was not polled above is free in the cell
abbrev pub Unpolled : ℕ → ℕ → Type 0
Unpolled above cell = (i : ℕ) → i < 6 → (i ∈ above → ⊥) → digit cell i ≡ 0

unpolled_below : (cell i d child above : ℕ) → Below cell i d child → Unpolled above cell → Unpolled (bit_or (2 ^ i) above) child
unpolled_below cell i d child above b un j lj out = b.other j ne ∙ un j lj (λ h. out ((∈-or j (2 ^ i) above).1 (inr h)))
  where
    ne : j ≡ i → ⊥
    ne e = out ((∈-or j (2 ^ i) above).1 (inl (subst (λ (n : ℕ). j ∈ 2 ^ n) e (∈_one j))))

right_on : (wants : ℕ → ℕ) (cell i child : ℕ) (on off : Tree) → Below cell i 1 child → Right wants cell (fork i on off) → Right wants child on
right_on wants cell i child on off b right e l c = sym (cond-true (has e i) (gives on e) (gives off e) (T_true (has e i) (b.line e c))) ∙ right e l (b.up e c)

not_T_false : (b : Bool) → T (not b) → b ≡ false
not_T_false true t = absurd t
not_T_false false t = refl

right_off : (wants : ℕ → ℕ) (cell i child : ℕ) (on off : Tree) → Below cell i 2 child → Right wants cell (fork i on off) → Right wants child off
right_off wants cell i child on off b right e l c = sym (cond-false (has e i) (gives on e) (gives off e) (not_T_false (has e i) (b.line e c))) ∙ right e l (b.up e c)

best_low : (price : Price) (lines : List Line) (wants best line : ℕ → ℕ) → Bests price lines wants best line
    → (cell i : ℕ) → cell < 729 → Free cell i → best cell ≤ fork_price price lines best cell i
best_low price lines wants best line bests cell i l f = go (cases_lt (fork_price price lines best cell i) (best cell))
  where
    go : (fork_price price lines best cell i < best cell) ⊎ (best cell ≤ fork_price price lines best cell i) → best cell ≤ fork_price price lines best cell i
    go (inr h) = h
    go (inl h) =
        let varies : Constant wants cell → ⊥ = λ c. let z = bests.constant cell l c in let no_way : ⊥ = omega arith in no_way in
        let f2 = bests.forked cell l varies in
        omega (arith, f2.0.least i f, f2.1)

lower_fork : (price : Price) (lines : List Line) (wants best line : ℕ → ℕ) → Lawful price → ((i : ℕ) → i < 6 → LineInRange (line_of lines i)) → Bests price lines wants best line
    → (i : ℕ) (on off : Tree) (cell above : ℕ) → cell < 729 → PollsOnce above (fork i on off) → Free cell i
    → best (on_cell cell i) ≤ cost_of price lines (free_in (on_cell cell i)) on → best (off_cell cell i) ≤ cost_of price lines (free_in (off_cell cell i)) off
    → best cell ≤ cost_of price lines (free_in cell) (fork i on off)
lower_fork price lines wants best line law range bests i on off cell above l p free ih-on ih-off =
    subst (λ (n : ℕ). best cell ≤ cost_of price lines n (fork i on off)) on_b.fewer (le_trans here dearer)
  where
    on_b : Below cell i 1 (on_cell cell i)
    on_b = on_below cell i l free

    off_b : Below cell i 2 (off_cell cell i)
    off_b = off_below cell i l free

    u : ℕ
    u = free_in (on_cell cell i)

    u_low : u < 6
    u_low = omega (arith, on_b.fewer, free_le cell)

    same : free_in (off_cell cell i) ≡ u
    same = suc_inj (off_b.fewer ∙ sym on_b.fewer)

    here : best cell ≤ price (line_of lines i).cost (line_of lines i).chance (suc u) (best (on_cell cell i)) (best (off_cell cell i))
    here = subst (λ (n : ℕ). best cell ≤ price (line_of lines i).cost (line_of lines i).chance n (best (on_cell cell i)) (best (off_cell cell i))) (sym on_b.fewer)
        (best_low price lines wants best line bests cell i l free)

    dearer : price (line_of lines i).cost (line_of lines i).chance (suc u) (best (on_cell cell i)) (best (off_cell cell i)) ≤ cost_of price lines (suc u) (fork i on off)
    dearer = law.rises _ _ u _ _ _ _ (record {
      c_low = (range i p.0).cost_low;
      c_high = (range i p.0).cost_high;
      p_high = (range i p.0).chance_high;
      u_high = u_low;
      on_high = cost_bounded price lines law range on (bit_or (2 ^ i) above) u (le_of_lt u_low) p.2;
      off_high = cost_bounded price lines law range off (bit_or (2 ^ i) above) u (le_of_lt u_low) p.3;
    })
        ih-on (subst (λ (n : ℕ). best (off_cell cell i) ≤ cost_of price lines n off) same ih-off)

pub lower : (price : Price) (lines : List Line) (wants best line : ℕ → ℕ) → Lawful price → ((i : ℕ) → i < 6 → LineInRange (line_of lines i)) → Bests price lines wants best line
    → (t : Tree) (cell above : ℕ) → cell < 729 → PollsOnce above t → Unpolled above cell → Right wants cell t → best cell ≤ cost_of price lines (free_in cell) t
lower price lines wants best line law range bests (leaf set) cell above l p un right =
    le_of_eq (bests.constant cell l (λ a b la lb ca cb. sym (right a la ca) ∙ right b lb cb))
lower price lines wants best line law range bests (fork i on off) cell above l p un right =
    let free : Free cell i = (p.0, un i p.0 p.1) in
    let on_b = on_below cell i l free in
    let off_b = off_below cell i l free in
    lower_fork price lines wants best line law range bests i on off cell above l p free
    (lower price lines wants best line law range bests on (on_cell cell i) (bit_or (2 ^ i) above) on_b.low p.2
    (unpolled_below cell i 1 (on_cell cell i) above on_b un) (right_on wants cell i (on_cell cell i) on off on_b right))
    (lower price lines wants best line law range bests off (off_cell cell i) (bit_or (2 ^ i) above) off_b.low p.3
    (unpolled_below cell i 2 (off_cell cell i) above off_b un) (right_off wants cell i (off_cell cell i) on off off_b right))

-- ---- the best tree is right, polls no line twice, and costs the best cost

best_constant : (wants line : ℕ → ℕ) (cell set : ℕ) → BestTree wants line cell (leaf set) → Constant wants cell
best_constant wants line cell set b a a' la la' ca ca' = b a la ca ∙ sym (b a' la' ca')

pub fork_free : (price : Price) (lines : List Line) (wants best line : ℕ → ℕ) → Bests price lines wants best line
    → (cell i : ℕ) (on off : Tree) → cell < 729 → BestTree wants line cell (fork i on off) → Free cell i
fork_free price lines wants best line bests cell i on off l b = subst (Free cell) b.1 (bests.forked cell l b.0).0.free

pub best_right : (price : Price) (lines : List Line) (wants best line : ℕ → ℕ) → Bests price lines wants best line
    → (t : Tree) (cell : ℕ) → cell < 729 → BestTree wants line cell t → Right wants cell t
best_right price lines wants best line bests (leaf set) cell l b e le c = sym (b e le c)
best_right price lines wants best line bests (fork i on off) cell l b e le c =
    let free = fork_free price lines wants best line bests cell i on off l b in
    let on_b = on_below cell i l free in
    let off_b = off_below cell i l free in
    cond_both (has e i) (gives on e) (gives off e) (λ s. s ≡ wants e)
    (λ h. best_right price lines wants best line bests on (on_cell cell i) on_b.low b.2 e le (on_b.down e c (true_T (has e i) h)))
    (λ h. best_right price lines wants best line bests off (off_cell cell i) off_b.low b.3 e le (off_b.down e c (true_T (not (has e i)) (ap not h))))

pub best_cost : (price : Price) (lines : List Line) (wants best line : ℕ → ℕ) → Bests price lines wants best line
    → (t : Tree) (cell : ℕ) → cell < 729 → BestTree wants line cell t → cost_of price lines (free_in cell) t ≡ best cell
best_cost price lines wants best line bests (leaf set) cell l b = sym (bests.constant cell l (best_constant wants line cell set b))
best_cost price lines wants best line bests (fork i on off) cell l b =
    let free = fork_free price lines wants best line bests cell i on off l b in
    let on_b = on_below cell i l free in
    let off_b = off_below cell i l free in
    let P : ℕ → ℕ → ℕ → ℕ = price (line_of lines i).cost (line_of lines i).chance in
    let same : free_in (off_cell cell i) ≡ free_in (on_cell cell i) = suc_inj (off_b.fewer ∙ sym on_b.fewer) in
    let on-cost = best_cost price lines wants best line bests on (on_cell cell i) on_b.low b.2 in
    let off-cost = subst (λ (n : ℕ). cost_of price lines n off ≡ best (off_cell cell i)) same (best_cost price lines wants best line bests off (off_cell cell i) off_b.low b.3) in
    subst (λ (n : ℕ). cost_of price lines n (fork i on off) ≡ best cell) on_b.fewer
    (ap₂ (λ (x y : ℕ). P (suc (free_in (on_cell cell i))) x y) on-cost off-cost
    ∙ (ap (λ (n : ℕ). P n (best (on_cell cell i)) (best (off_cell cell i))) on_b.fewer
    ∙ sym (subst (λ (j : ℕ). best cell ≡ fork_price price lines best cell j) b.1 (bests.forked cell l b.0).1)))

-- a line polled above is not free in the cell
abbrev pub Fixed : ℕ → ℕ → Type 0
Fixed above cell = (i : ℕ) → i ∈ above → digit cell i ≡ 0 → ⊥

fixed_below : (cell i d child above : ℕ) → 0 < d → Below cell i d child → Fixed above cell → Fixed (bit_or (2 ^ i) above) child
fixed_below cell i d child above pos b fixed j h z = go (cases_eq j i) ((∈-or j (2 ^ i) above).0 h)
  where
    at_i : j ≡ i → ⊥
    at_i e = let p = b.at in let q = ap (digit child) e in let no_way : ⊥ = omega (arith, p, q, z) in no_way

    go : (j ≡ i) ⊎ (j ≡ i → ⊥) → (j ∈ 2 ^ i) ⊎ (j ∈ above) → ⊥
    go (inl e) h = at_i e
    go (inr ne) (inl h) = ne (∈_one_is j i h)
    go (inr ne) (inr h) = fixed j h (sym (b.other j ne) ∙ z)

pub best_polls_once : (price : Price) (lines : List Line) (wants best line : ℕ → ℕ) → Bests price lines wants best line
    → (t : Tree) (cell above : ℕ) → cell < 729 → Fixed above cell → BestTree wants line cell t → PollsOnce above t
best_polls_once price lines wants best line bests (leaf set) cell above l fixed b = tt
best_polls_once price lines wants best line bests (fork i on off) cell above l fixed b =
    let free = fork_free price lines wants best line bests cell i on off l b in
    let on_b = on_below cell i l free in
    let off_b = off_below cell i l free in (
      free.0,
      (λ h. fixed i h free.1),
      best_polls_once price lines wants best line bests on (on_cell cell i) (bit_or (2 ^ i) above) on_b.low (fixed_below cell i 1 (on_cell cell i) above (lit≤ tt) on_b fixed) b.2,
      best_polls_once price lines wants best line bests off (off_cell cell i) (bit_or (2 ^ i) above) off_b.low (fixed_below cell i 2 (off_cell cell i) above (lit≤ tt) off_b fixed) b.3,
    )

-- ---- for a state of a rule

module _ (price : Price) (rule : Rule) (q : ℕ) (wants best line : ℕ → ℕ) (law : Lawful price) (well : WellFormed rule)
    (is-wanted : Wants rule q wants) (bests : Bests price rule.lines wants best line) where
  pub best_cheapest : Cheapest price rule q (best 0)
  best_cheapest other serves once = subst (λ (n : ℕ). best 0 ≤ cost_of price rule.lines n other) free_whole
      (lower price rule.lines wants best line law (line_in_range rule well) bests other 0 0 (lit≤ tt) once zeros
      (λ e l c. pruned_one rule q e (gives other e) (wants e) (serves e l) (is-wanted e l)))
    where
      zeros : Unpolled 0 0
      zeros i l out = ap (λ (n : ℕ). n % 3) (native.Mathlib.Nat.zero-div (3 ^ i))

  module _ (t : Tree) (is_best : BestTree wants line 0 t) where
    pub best_serves : Serves rule q t
    best_serves e l = subst (IsPrunedSet rule q e) (sym (best_right price rule.lines wants best line bests t 0 (lit≤ tt) is_best e l (covers_all e))) (is-wanted e l)

    pub best_once : PollsOnce 0 t
    best_once = best_polls_once price rule.lines wants best line bests t 0 0 (lit≤ tt) (λ i h. absurd (∈_none i h)) is_best

    pub best_costs : cost_of price rule.lines 6 t ≡ best 0
    best_costs = subst (λ (n : ℕ). cost_of price rule.lines n t ≡ best 0) free_whole (best_cost price rule.lines wants best line bests t 0 (lit≤ tt) is_best)

    pub best_tree_cheapest : Cheapest price rule q (cost_of price rule.lines 6 t)
    best_tree_cheapest other serves once = subst (λ (n : ℕ). n ≤ cost_of price rule.lines 6 other) (sym best_costs) (best_cheapest other serves once)

    -- what fitting promises, from the table of best costs and lines and the tree written from it
    pub best_fitted : Fitted price rule q t (best 0)
    best_fitted = record {
      is_best = record { wants = wants; best = best; line = line; wanted = is-wanted; bests = bests; tree = is_best };
      serves = best_serves;
      polls_once = best_once;
      costs = sym best_costs;
      cheapest = best_cheapest;
      mean = λ same. subst (IsTrillionfold (mean_cost rule.lines t)) (sym (ap (λ (m : Price). cost_of m rule.lines 6 t) same) ∙ best_costs) (mean_trillionfold rule.lines t best_once);
    }
