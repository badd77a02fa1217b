-- Prices fit: the five numbers of a fork are within their ranges, and no price passes the bound for six lines.
use Rattle.std.proofs.Common.{◌≡◌, ℕ, suc, ◌-◌, ◌<◌, ◌≤◌, sym, subst, le_trans, mul-le-mul, mul-le-mul_left, arith}
use native.Mathlib.Nat.{pow-le-pow_right}
use Rattle.events.specs.Cells.{Free, free_in, on_cell, off_cell}
use Rattle.events.proofs.CellLaws.{free_le}
use Rattle.rules.specs.trees.Costs.{Price, Priced, Lawful, bound}
use Rattle.rules.proofs.trees.BestLaws.{on_below, off_below}
use Rattle.rules.proofs.trees.BestTable.{above_on, above_off}
use Rattle.fitting.specs.declared.measure.ForkNumbers.{ForkNumbers}
use Rattle.fitting.specs.Tables.{SmallAfter}

-- the bound for any count of lines is within the bound for six
pub bound_most : (u : ℕ) → u ≤ 6 → bound u ≤ 6000000000000000
bound_most u h = mul-le-mul (mul-le-mul_left 1000 h) (pow-le-pow_right {n = 100} (omega arith) h)

-- the numbers of a fork are such as a measure is asked to price
pub fork_priced : (f : ForkNumbers) → Priced f.cost f.chance (f.unpolled - 1) f.on f.off
fork_priced f = record {
  c_low = f.cost_low;
  c_high = f.cost_high;
  p_high = f.chance_high;
  u_high = omega (arith, f.some, f.few);
  on_high = f.on_high;
  off_high = f.off_high;
}

-- so their price is small
pub price_small : (price : Price) → Lawful price → (f : ForkNumbers) → price f.cost f.chance f.unpolled f.on f.off ≤ 6000000000000000
price_small price law f =
    let one_more : suc (f.unpolled - 1) ≡ f.unpolled = omega (arith, f.some) in
    subst (λ (u : ℕ). price f.cost f.chance u f.on f.off ≤ 6000000000000000) one_more
    (le_trans (law.bounded _ _ _ _ _ (fork_priced f)) (bound_most (suc (f.unpolled - 1)) (omega (arith, f.few, f.some))))

-- ---- the two parts of a fork on a free line

-- a cell that fixes one line more costs at most the bound for one line less
part_small : (best : ℕ → ℕ) (cell k u : ℕ) → SmallAfter best cell → cell < k → k < 729 → suc (free_in k) ≡ free_in cell → u ≡ free_in cell → best k ≤ bound (u - 1)
part_small best cell k u small l low fewer is =
    let less : free_in k ≡ u - 1 = omega arith in
    subst (λ (n : ℕ). best k ≤ bound n) less (small k l low)

module _ (best : ℕ → ℕ) (cell line u : ℕ) (small : SmallAfter best cell) (low : cell < 729) (free : Free cell line) (is : u ≡ free_in cell) where
  pub on_small : (k : ℕ) → k ≡ on_cell cell line → best k ≤ bound (u - 1)
  on_small k e = subst (λ (n : ℕ). best n ≤ bound (u - 1)) (sym e)
      (part_small best cell (on_cell cell line) u small (above_on cell line) (on_below cell line low free).low (on_below cell line low free).fewer is)

  pub off_small : (k : ℕ) → k ≡ off_cell cell line → best k ≤ bound (u - 1)
  off_small k e = subst (λ (n : ℕ). best n ≤ bound (u - 1)) (sym e)
      (part_small best cell (off_cell cell line) u small (above_off cell line) (off_below cell line low free).low (off_below cell line low free).fewer is)

  -- the line itself is one of the lines left
  pub some_left : 1 ≤ u
  some_left = omega (arith, is, (on_below cell line low free).fewer)

  pub few_left : u ≤ 6
  few_left = omega (arith, is, free_le cell)
