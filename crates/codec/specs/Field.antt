-- What reading a number with a range answers, in any layer.
use Rattle.std.specs.Prelude.{ℕ, cond, ◌||◌, List, length, Ok, Err, Result, nat_le, nat_lt}
use Rattle.codec.specs.declared.fault.NumberFault.{NumberFault}
use Rattle.codec.specs.declared.fault.CardFault.{CardFault}
use Rattle.codec.specs.declared.fault.CardFault.TheVariants as card
use Rattle.codec.specs.Reading.{Read}
use Rattle.codec.specs.Number.{number_at}
use Rattle.codec.specs.Steps.{and_then}

-- a number from low to high: the bytes end before it, or it cannot be read, or it is outside the range, each in the layer's own words
abbrev pub ranged_at : {F : Type 0} → (ℕ → F) → (NumberFault → F) → (ℕ → F) → List ℕ → ℕ → ℕ → ℕ → Result (Read ℕ) F
ranged_at short carried outside f p low high =
    cond (nat_le (length f) p) (Err (short (length f)))
    (and_then carried (number_at f p) (λ n. cond (nat_lt n.value low || nat_lt high n.value) (Err (outside p)) (Ok n)))

-- a number inside a card
abbrev pub field_at : List ℕ → ℕ → ℕ → ℕ → Result (Read ℕ) CardFault
field_at f p low high = ranged_at card.Short card.Number card.Range f p low high
