-- What a reader's call answers, and where it then stands.
use Rattle.std.specs.Prelude.{ℕ, Ok, Err, Result}

-- what was read, and the place behind it
pub record Read (A : Type 0) : Type 0 where
  pub value : A
  pub next : ℕ

-- what a call answers, with the place where the reader then stands; a fault has no place behind it
abbrev pub read_to : {A E : Type 0} → Result A E → ℕ → Result (Read A) E
read_to (Ok x) at = Ok (record { value = x; next = at })
read_to (Err e) at = Err e
