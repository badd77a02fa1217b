-- What holds of each number below a literal, by cases.
use Rattle.std.proofs.Common.{ℕ, zero, suc, ◌<◌, arith}

-- one fact and then others
infixr 4 ◌&◌
abbrev pub ◌&◌ : {A B : Type 0} → A → B → A × B
a & b = (a, b)

-- a proof for each number below n, from 0 on
abbrev pub EachBelow : ℕ → (ℕ → Type 0) → Type 0
EachBelow zero P = Unit {0}
EachBelow (suc n) P = P 0 × EachBelow n (λ k. P (suc k))

pub each_below : (n : ℕ) (P : ℕ → Type 0) → EachBelow n P → (q : ℕ) → q < n → P q
each_below zero P none q l = absurd (omega arith)
each_below (suc n) P (first, others) zero l = first
each_below (suc n) P (first, others) (suc q) l = each_below n (λ k. P (suc k)) others q (omega arith)
