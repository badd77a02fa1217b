-- A number with a range is taken exactly where the bytes are the encoding of a value in the range.
use Rattle.std.proofs.Common.{◌≡◌, ℕ, ◌<◌, ◌≤◌, ◌||◌, ltb, leb, List, length, Ok, arith}
use Rattle.std.proofs.lemmas.Bool.{ltb-false, le-ltb, lt-leb, or_parts, or_from}
use Rattle.codec.specs.declared.fault.NumberFault.{NumberFault}
use Rattle.codec.specs.Reading.{Read}
use Rattle.codec.specs.Number.{encode, number_at, IsNumber, Octets}
use Rattle.codec.specs.Field.{ranged_at}
use Rattle.codec.proofs.Steps.{inside_ok, then_ok, else_ok}
use Rattle.codec.proofs.Numbers.{number_exact, encode_some}
use Rattle.codec.proofs.Spans.{Spans, span_end}

module _ {F : Type 0} (short : ℕ → F) (carried : NumberFault → F) (outside : ℕ → F) (f : List ℕ) where
  -- what is taken is a number in the range
  pub ranged_within : (p low high : ℕ) (n : Read ℕ) → ranged_at short carried outside f p low high ≡ Ok n → (low ≤ n.value) × (n.value ≤ high) × (number_at f p ≡ Ok n)
  ranged_within p low high n h =
      let a = else_ok (leb (length f) p) _ _ n h in
      let b = then_ok carried (number_at f p) _ n a.1 in
      let d = else_ok (ltb b.0.value low || ltb high b.0.value) _ _ n b.2 in
      let e : b.0 ≡ n = inside_ok d.1 in
      let parts = or_parts _ _ d.0 in
      (rw (← e) (ltb-false _ _ parts.0), rw (← e) (ltb-false _ _ parts.1), rw e at b.1)

  -- and so the encoding of a value in the range
  pub ranged_sound : Octets f → (p low high : ℕ) (n : Read ℕ) → ranged_at short carried outside f p low high ≡ Ok n
      → (low ≤ n.value) × (n.value ≤ high) × Spans f p (encode n.value) n.next
  ranged_sound octets p low high n h =
      let r = ranged_within p low high n h in
      let is = (number_exact f p n.value n.next octets).0 r.2 in
      (r.0, r.1, record { are = is.bytes; inside = is.inside })

  -- each encoding of a value in the range is taken
  pub ranged_complete : Octets f → (p low high v q : ℕ) → high < 2097152 → low ≤ v → v ≤ high → p ≤ length f → Spans f p (encode v) q
      → ranged_at short carried outside f p low high ≡ Ok (record { value = v; next = q })
  ranged_complete octets p low high v q hh l h hp s =
      let some = encode_some v in
      let e = span_end f p q (encode v) hp s in
      let w : p < length f = omega (arith, s.inside) in
      let small : v < 2097152 = omega arith in
      let is : IsNumber f p v q = record { small = small; inside = s.inside; bytes = s.are } in
      let n = (number_exact f p v q octets).1 is in
      let room = lt-leb (length f) p w in
      let range = or_from (ltb v low) (ltb high v) (le-ltb v low l) (le-ltb high v h) in
      rw (n, room, range)
