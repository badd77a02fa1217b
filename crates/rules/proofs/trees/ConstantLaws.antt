-- Cells in which all covered events want the same set: a cell with no free line is one, and whether a cell is one is decided.
use Rattle.std.proofs.Common.{◌≡◌, ℕ, zero, suc, ◌<◌, ◌⊎◌, sym, ap, subst, inl, inr, not-suc-le-zero, arith}
use Rattle.std.proofs.lemmas.Bool.{cases_eq}
use Rattle.events.specs.Cells.{Covers, free_in}
use Rattle.events.proofs.CellLaws.{single, covers_decided}
use Rattle.rules.specs.trees.Bests.{Constant}

-- a cell with no free line covers one event, so it is constant
pub full_constant : (wants : ℕ → ℕ) (cell : ℕ) → free_in cell ≡ 0 → Constant wants cell
full_constant wants cell none a b la lb ca cb = ap wants (single cell a b none la lb ca cb)

-- ---- whether a cell is constant is decided

pub dec_below : (P : ℕ → Type 0) → ((k : ℕ) → P k ⊎ (P k → ⊥)) → (n : ℕ) → ((k : ℕ) → k < n → P k) ⊎ (((k : ℕ) → k < n → P k) → ⊥)
dec_below P dec zero = inl (λ k l. absurd (not-suc-le-zero l))
dec_below P dec (suc n) = go (dec_below P dec n) (dec n)
  where
    go : ((k : ℕ) → k < n → P k) ⊎ (((k : ℕ) → k < n → P k) → ⊥) → P n ⊎ (P n → ⊥) → ((k : ℕ) → k < suc n → P k) ⊎ (((k : ℕ) → k < suc n → P k) → ⊥)
    go (inl all) (inl h) = inl (λ k l. at k l (cases_eq k n))
      where
        at : (k : ℕ) → k < suc n → (k ≡ n) ⊎ (k ≡ n → ⊥) → P k
        at k l (inl e) = subst P (sym e) h
        at k l (inr ne) = all k (omega arith)
    go (inl all) (inr no_way) = inr (λ h. no_way (h n (omega arith)))
    go (inr some) d = inr (λ h. some (λ k l. h k (omega arith)))

dec_implies : {A B : Type 0} → A ⊎ (A → ⊥) → B ⊎ (B → ⊥) → (A → B) ⊎ ((A → B) → ⊥)
dec_implies (inl a) (inl b) = inl (λ x. b)
dec_implies (inl a) (inr n) = inr (λ f. n (f a))
dec_implies (inr n) d = inl (λ a. absurd (n a))

pub constant_decided : (wants : ℕ → ℕ) (cell : ℕ) → Constant wants cell ⊎ (Constant wants cell → ⊥)
constant_decided wants cell = go (dec_below (λ a. (b : ℕ) → b < 64 → Covers cell a → Covers cell b → wants a ≡ wants b)
    (λ a. dec_below (λ b. Covers cell a → Covers cell b → wants a ≡ wants b) (λ b. dec_implies (covers_decided cell a) (dec_implies (covers_decided cell b) (cases_eq (wants a) (wants b)))) 64) 64)
  where
    go : ((a : ℕ) → a < 64 → (b : ℕ) → b < 64 → Covers cell a → Covers cell b → wants a ≡ wants b) ⊎ (((a : ℕ) → a < 64 → (b : ℕ) → b < 64 → Covers cell a → Covers cell b → wants a ≡ wants b) → ⊥)
        → Constant wants cell ⊎ (Constant wants cell → ⊥)
    go (inl h) = inl (λ a b la lb. h a la b lb)
    go (inr n) = inr (λ h. n (λ a la b lb. h a b la lb))
