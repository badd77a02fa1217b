-- Best costs, chosen lines and best trees are determined.
use Rattle.std.proofs.Common.{◌≡◌, ℕ, zero, suc, ◌<◌, ◌⊎◌, List, sym, refl, ap, ◌∙◌, subst, ap₂, inl, inr, suc-ne-zero, arith}
use native.Mathlib.Nat.{suc_inj}
use Rattle.std.proofs.lemmas.Bool.{cases_order, cases_eq}
use Rattle.rules.specs.declared.Line.{Line}
use Rattle.events.specs.Cells.{Free, free_in, on_cell, off_cell}
use Rattle.rules.specs.automata.Rules.{line_of}
use Rattle.rules.specs.trees.Trees.{Tree, leaf, fork}
use Rattle.rules.specs.trees.Costs.{Price}
use Rattle.rules.specs.trees.Bests.{Constant, fork_price, LowestBest, Bests, BestTree}
use Rattle.rules.proofs.trees.BestLaws.{on_below, off_below}
use Rattle.rules.proofs.automata.MaskLaws.{covers_some}

module _ (price : Price) (lines : List Line) (wants best line best' line' : ℕ → ℕ) (bests : Bests price lines wants best line) (bests' : Bests price lines wants best' line') where
  -- the two agree in the cells below a cell
  AgreeBelow : ℕ → Type 0
  AgreeBelow cell = (j : ℕ) → Free cell j → (best (on_cell cell j) ≡ best' (on_cell cell j)) × (best (off_cell cell j) ≡ best' (off_cell cell j))

  prices_agree : (cell : ℕ) → AgreeBelow cell → (j : ℕ) → Free cell j → fork_price price lines best cell j ≡ fork_price price lines best' cell j
  unfolding AgreeBelow
  prices_agree cell agree j f = ap₂ (λ (x y : ℕ). price (line_of lines j).cost (line_of lines j).chance (free_in cell) x y) (agree j f).0 (agree j f).1

  agree_here : (cell : ℕ) → cell < 729 → AgreeBelow cell → best cell ≡ best' cell
  agree_here cell l agree = go (cases_eq (best cell) (best' cell))
    where
      go : (best cell ≡ best' cell) ⊎ (best cell ≡ best' cell → ⊥) → best cell ≡ best' cell
      go (inl e) = e
      go (inr ne) =
          let varies : Constant wants cell → ⊥ = λ c. ne (bests.constant cell l c ∙ sym (bests'.constant cell l c)) in
          let f = bests.forked cell l varies in
          let f' = bests'.forked cell l varies in
          omega (
            arith,
            f.1,
            f'.1,
            f.0.least (line' cell) f'.0.free,
            f'.0.least (line cell) f.0.free,
            prices_agree cell agree (line cell) f.0.free,
            prices_agree cell agree (line' cell) f'.0.free,
          )

  bests_agree : (n cell : ℕ) → cell < 729 → free_in cell ≡ n → best cell ≡ best' cell
  unfolding AgreeBelow
  bests_agree zero cell l e = agree_here cell l (λ j f. absurd (suc-ne-zero (free_in (on_cell cell j)) ((on_below cell j l f).fewer ∙ e)))
  bests_agree (suc n) cell l e = agree_here cell l (λ j f.
      let on_b = on_below cell j l f in
      let off_b = off_below cell j l f in
      (bests_agree n (on_cell cell j) on_b.low (suc_inj (on_b.fewer ∙ e)), bests_agree n (off_cell cell j) off_b.low (suc_inj (off_b.fewer ∙ e))))

  pub bests_one : (cell : ℕ) → cell < 729 → best cell ≡ best' cell
  bests_one cell l = bests_agree (free_in cell) cell l refl

  pub lines_one : (cell : ℕ) → cell < 729 → (Constant wants cell → ⊥) → line cell ≡ line' cell
  unfolding AgreeBelow
  lines_one cell l varies = go (cases_order (line cell) (line' cell))
    where
      f : LowestBest price lines best cell (line cell) × (best cell ≡ fork_price price lines best cell (line cell))
      f = bests.forked cell l varies

      f' : LowestBest price lines best' cell (line' cell) × (best' cell ≡ fork_price price lines best' cell (line' cell))
      f' = bests'.forked cell l varies

      same : (j : ℕ) → Free cell j → fork_price price lines best cell j ≡ fork_price price lines best' cell j
      same = prices_agree cell (λ j fr. (bests_one (on_cell cell j) (on_below cell j l fr).low, bests_one (off_cell cell j) (off_below cell j l fr).low))

      go : (line cell ≡ line' cell) ⊎ ((line cell < line' cell) ⊎ (line' cell < line cell)) → line cell ≡ line' cell
      go (inl e) = e
      go (inr (inl h)) = absurd (let no_way : ⊥ = omega (arith, f'.0.lowest (line cell) h f.0.free, f.0.least (line' cell) f'.0.free, same (line cell) f.0.free, same (line' cell) f'.0.free) in no_way)
      go (inr (inr h)) = absurd (let no_way : ⊥ = omega (arith, f.0.lowest (line' cell) h f'.0.free, f'.0.least (line cell) f.0.free, same (line cell) f.0.free, same (line' cell) f'.0.free) in no_way)

  constant_leaf : (ln : ℕ → ℕ) (cell set : ℕ) → BestTree wants ln cell (leaf set) → Constant wants cell
  constant_leaf ln cell set b a a' la la' ca ca' = b a la ca ∙ sym (b a' la' ca')

  pub trees_one : (t t' : Tree) (cell : ℕ) → cell < 729 → BestTree wants line cell t → BestTree wants line' cell t' → t ≡ t'
  trees_one (leaf s) (leaf s') cell l b b' = let (e, le, c) = covers_some cell in ap leaf (sym (b e le c) ∙ b' e le c)
  trees_one (leaf s) (fork i on off) cell l b b' = absurd (b'.0 (constant_leaf line cell s b))
  trees_one (fork i on off) (leaf s) cell l b b' = absurd (b.0 (constant_leaf line' cell s b'))
  trees_one (fork i on off) (fork i' on' off') cell l b b' =
      let same : i ≡ i' = sym b.1 ∙ (lines_one cell l b.0 ∙ b'.1) in
      let free : Free cell i = subst (Free cell) b.1 (bests.forked cell l b.0).0.free in
      let on_b = on_below cell i l free in
      let off_b = off_below cell i l free in
      let ons = trees_one on on' (on_cell cell i) on_b.low b.2 (subst (λ (k : ℕ). BestTree wants line' (on_cell cell k) on') (sym same) b'.2) in
      let offs = trees_one off off' (off_cell cell i) off_b.low b.3 (subst (λ (k : ℕ). BestTree wants line' (off_cell cell k) off') (sym same) b'.3) in
      λ k. fork (same k) (ons k) (offs k)
