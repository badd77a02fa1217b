-- Rounds of a step: what a step keeps, the rounds keep; and a set of states that only grows, or only shrinks, has settled after 32 rounds.
use Rattle.std.proofs.Common.{◌≡◌, ℕ, zero, suc, ◌+◌, ◌-◌, ◌^◌, ◌<◌, ◌≤◌, ◌⊎◌, sym, refl, ap, ◌∙◌, subst, inl, inr, add-zero, add-suc, arith}
use lib.Count.{ones, ones-le}
use Rattle.std.proofs.lemmas.Bool.{cases_eq}
use Rattle.events.specs.Sets.{Subset}
use Rattle.events.proofs.SetLaws.{grown}
use Rattle.rules.proofs.automata.MaskLaws.{iter, settles}
use Rattle.pruning.specs.Computed.{rounds, settled}

-- a set of states
abbrev pub Small : ℕ → Type 0
Small set = set < 2 ^ 32

-- the step leaves a set of states
abbrev pub Keeps : (ℕ → ℕ) → Type 0
Keeps step = (set : ℕ) → Small set → Small (step set)

-- the step only adds states, or only removes some
abbrev pub Grows : (ℕ → ℕ) → Type 0
Grows step = (set : ℕ) → Small set → Subset set (step set)

abbrev pub Shrinks : (ℕ → ℕ) → Type 0
Shrinks step = (set : ℕ) → Small set → Subset (step set) set

-- the step computes the function
abbrev pub Computes : (ℕ → ℕ → Type 0) → (ℕ → ℕ) → Type 0
Computes P g = (set next : ℕ) → set < 2 ^ 32 → P set next → next ≡ g set

-- the set is what n rounds of any such function leave of the seed
pub record Rounds (P : ℕ → ℕ → Type 0) (n seed set : ℕ) : Type 0 where
  pub small : set < 2 ^ 32
  pub ran : (g : ℕ → ℕ) → Computes P g → set ≡ rounds n g seed

-- a round that changes nothing is the last
rounds_still : (g : ℕ → ℕ) (seed set n k : ℕ) → set ≡ rounds n g seed → g set ≡ set → set ≡ rounds (n + k) g seed
rounds_still g seed set n zero ran still = rw add-zero ran
rounds_still g seed set n (suc k) ran still = rw add-suc (sym still ∙ ap g (rounds_still g seed set n k ran still))

module _ (P : ℕ → ℕ → Type 0) (n seed set : ℕ) (inv : Rounds P n seed set) where
  pub rounds_done : (next : ℕ) → P set next → next ≡ set → n < 32 → (g : ℕ → ℕ) → Computes P g → set ≡ settled g seed
  unfolding settled
  rounds_done next gave same l g is =
      let all : n + (32 - n) ≡ 32 = omega arith in
      rounds_still g seed set n (32 - n) (inv.ran g is) (sym (is set next inv.small gave) ∙ same) ∙ ap (λ (k : ℕ). rounds k g seed) all

  pub rounds_all : 32 ≤ n → n ≤ 32 → (g : ℕ → ℕ) → Computes P g → set ≡ settled g seed
  unfolding settled
  rounds_all up low g is = let all : n ≡ 32 = omega arith in inv.ran g is ∙ ap (λ (k : ℕ). rounds k g seed) all

module _ (step : ℕ → ℕ) where
  rounds_iter : (n set : ℕ) → rounds n step set ≡ iter n step set
  rounds_iter zero set = refl
  rounds_iter (suc n) set = ap step (rounds_iter n set)

  rounds_keep : (P : ℕ → Type 0) → ((set : ℕ) → P set → P (step set)) → (n set : ℕ) → P set → P (rounds n step set)
  rounds_keep P keeps zero set h = h
  rounds_keep P keeps (suc n) set h = keeps (rounds n step set) (rounds_keep P keeps n set h)

  -- what holds of a set, and is kept by each step, holds of the settled set
  pub settled_keep : (P : ℕ → Type 0) → ((set : ℕ) → P set → P (step set)) → (set : ℕ) → P set → P (settled step set)
  unfolding settled
  settled_keep P keeps set h = rounds_keep P keeps 32 set h

  -- a step that moves a number up to 32, or does nothing, has settled
  settled_by_lem : (size : ℕ → ℕ) → Keeps step → ((set : ℕ) → Small set → (step set ≡ set → ⊥) → size set < size (step set)) → ((set : ℕ) → Small set → size set ≤ 32)
      → (set : ℕ) → Small set → step (settled step set) ≡ settled step set
  unfolding settled
  settled_by_lem size keeps up top set small =
      subst (λ (x : ℕ). step x ≡ x) (sym (rounds_iter 32 set)) (settles Small step size 32 keeps (λ y ok. go y ok (cases_eq (step y) y)) top set small)
    where
      go : (y : ℕ) → Small y → (step y ≡ y) ⊎ (step y ≡ y → ⊥) → (step y ≡ y) ⊎ (size y < size (step y))
      go y ok (inl e) = inl e
      go y ok (inr ne) = inr (up y ok ne)

  pub grown_settled : Keeps step → Grows step → (set : ℕ) → Small set → step (settled step set) ≡ settled step set
  grown_settled keeps grows set small =
      settled_by_lem ones keeps (λ y ok ne. grown 32 y (step y) ok (keeps y ok) (grows y ok) (λ e. ne (sym e))) (λ y ok. ones-le 32 y ok) set small

  pub shrunk_settled : Keeps step → Shrinks step → (set : ℕ) → Small set → step (settled step set) ≡ settled step set
  shrunk_settled keeps shrinks set small =
      settled_by_lem (λ y. 32 - ones y) keeps
      (λ y ok ne. omega (arith, grown 32 (step y) y (keeps y ok) ok (shrinks y ok) ne, ones-le 32 y ok))
      (λ y ok. omega arith) set small
