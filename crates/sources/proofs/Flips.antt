-- What turning lines over does to each line.
use Rattle.std.proofs.Common.{◌≡◌, ℕ, zero, suc, ◌/◌, ◌%◌, ◌^◌, ◌<◌, eqb, refl, ap, ◌∙◌, mod-lt, arith}
use lib.Bits.{bit_xor, xor_assoc, xor_self, xor_zero_r}
use Rattle.std.proofs.lemmas.Nat.{xor_shr, xor_mod}
use Rattle.events.specs.Sets.{has}
use Rattle.sources.specs.Wirings.{turned_by}

-- of two binary digits
digit-xor : (x y : ℕ) → x < 2 → y < 2 → eqb (bit_xor x y) 1 ≡ turned_by (eqb x 1) (eqb y 1)
digit-xor zero zero hx hy = refl
digit-xor zero (suc zero) hx hy = refl
digit-xor (suc zero) zero hx hy = refl
digit-xor (suc zero) (suc zero) hx hy = refl
digit-xor zero (suc (suc y)) hx hy = absurd (omega arith)
digit-xor (suc zero) (suc (suc y)) hx hy = absurd (omega arith)
digit-xor (suc (suc x)) y hx hy = absurd (omega arith)

pub has-xor : (a b k : ℕ) → has (bit_xor a b) k ≡ turned_by (has a k) (has b k)
unfolding has
has-xor a b k =
    ap (λ (y : ℕ). eqb (y % 2) 1) (xor_shr a b k) ∙ (ap (λ (y : ℕ). eqb y 1) (xor_mod (a / 2 ^ k) (b / 2 ^ k) 1)
    ∙ digit-xor (a / 2 ^ k % 2) (b / 2 ^ k % 2) (mod-lt (a / 2 ^ k) (omega arith)) (mod-lt (b / 2 ^ k) (omega arith)))

pub flips_cancel : (a b : ℕ) → bit_xor (bit_xor a b) b ≡ a
flips_cancel a b = xor_assoc a b b ∙ (ap (bit_xor a) (xor_self b) ∙ xor_zero_r a)
