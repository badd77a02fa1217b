-- What came of several reading steps came of each.
use Rattle.std.proofs.Common.{◌≡◌, ℕ, Bool, true, false, cond, Ok, Err, Result, refl, arith}
use Rattle.codec.specs.Steps.{and_then}

-- what two results hold
pub inside_ok : {X Y : Type 0} {x y : X} → ◌≡◌ {A = Result X Y} (Ok x) (Ok y) → x ≡ y
inside_ok h = cc

-- what came of two steps came of the first, then of the second
pub then_ok : {A B E F : Type 0} (wrap : E → F) (x : Result A E) (next : A → Result B F) (y : B) → and_then wrap x next ≡ Ok y
    → (a : A) × (x ≡ Ok a) × (next a ≡ Ok y)
then_ok wrap (Ok a) next y h = (a, refl, h)
then_ok wrap (Err e) next y h = let z : ◌≡◌ {A = ℕ} 0 1 = cc in absurd (omega arith)

-- what came of a test that refuses where it holds came of the other side
pub else_ok : {B F : Type 0} (b : Bool) (e : F) (x : Result B F) (y : B) → cond b (Err e) x ≡ Ok y → (b ≡ false) × (x ≡ Ok y)
else_ok true e x y h = let z : ◌≡◌ {A = ℕ} 0 1 = cc in absurd (omega arith)
else_ok false e x y h = (refl, h)

-- what came of a test that refuses where it does not hold came of the first side
pub if_ok : {B F : Type 0} (b : Bool) (e : F) (x : Result B F) (y : B) → cond b x (Err e) ≡ Ok y → (b ≡ true) × (x ≡ Ok y)
if_ok true e x y h = (refl, h)
if_ok false e x y h = let z : ◌≡◌ {A = ℕ} 0 1 = cc in absurd (omega arith)
