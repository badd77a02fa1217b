-- A text of digits without upper-case letters is the one that spells its bytes.
use Rattle.std.proofs.Common.{◌≡◌, ℕ, ◌+◌, ◌*◌, ◌/◌, ◌%◌, ◌<◌, ◌==◌, Bool, true, List, [], ◌∷◌, slice_index, Option, Some, None, Result, Ok, Err, refl, sym, ◌∙◌, arith}
use Rattle.std.specs.Prelude.{not, nat_lt, if◌then◌else◌}
use Rattle.std.specs.Char.{is_ascii_uppercase}
use Rattle.std.specs.List.{list_all}
use Rattle.std.proofs.lemmas.Bool.{agree_below_at, and_parts, eqb-true}
use Rattle.std.proofs.lemmas.Bool.Decides.{nat_tests}
use Rattle.hex.specs.Hex.{decode_of, decode_pairs, digit_or_error, encode_lower, encode_with, hex_digit_value, lower_digits, pair_value, value_at, ◌>>=◌}
use Rattle.hex.specs.declared.error.FromHexError.{FromHexError}
use Rattle.hex.proofs.HexLemmas.{decode_of-ok, decode_of-even}

-- whether the digit that spells v is as far behind `0` as v, or from 10 on as far behind `a` as v is above 10
abbrev is_spelt : ℕ → Bool
is_spelt v = slice_index lower_digits v == (if nat_lt v 10 then v + 48 else v + 87)

-- the value of a digit is below 16
digit_small : (c v : ℕ) → hex_digit_value c ≡ Some v → v < 16
digit_small c v read = grind arith

-- a digit that is no upper-case letter spells its value
digit_spelt : (c v : ℕ) → hex_digit_value c ≡ Some v → not (is_ascii_uppercase c) ≡ true → slice_index lower_digits v ≡ c
digit_spelt c v read lower =
    let small = digit_small c v read in
    let e = eqb-true _ _ (agree_below_at is_spelt (λ _. true) 16 v refl small) in
    grind (arith, nat_tests)

-- the value of a digit that was read
digit_read : (c i v : ℕ) (o : Option ℕ) → digit_or_error c i o ≡ Ok v → o ≡ Some v
digit_read c i v (Some w) h = cc
digit_read c i v None h = cc h

-- what an `Ok` behind `>>=` shows
bind_ok : {A B : Type 0} (r : Result A FromHexError) (f : A → Result B FromHexError) (y : B)
    → (r >>= f) ≡ Ok y → (x : A) × (r ≡ Ok x) × (f x ≡ Ok y)
bind_ok (Ok x) f y h = (x, refl, h)
bind_ok (Err e) f y h = cc h

-- two digits that are no upper-case letters spell their byte
pair_spelt : (high low i byte : ℕ) → pair_value high low i ≡ Ok byte
    → not (is_ascii_uppercase high) ≡ true → not (is_ascii_uppercase low) ≡ true
    → (slice_index lower_digits (byte / 16) ≡ high) × (slice_index lower_digits (byte % 16) ≡ low)
pair_spelt high low i byte h high_lower low_lower =
    let first = bind_ok (value_at high i) _ byte h in
    let second = bind_ok (value_at low (i + 1)) _ byte first.2 in
    let first_read = digit_read high i first.0 (hex_digit_value high) first.1 in
    let second_read = digit_read low (i + 1) second.0 (hex_digit_value low) second.1 in
    let small = digit_small low second.0 second_read in
    let whole : first.0 * 16 + second.0 ≡ byte = cc second.2 in
    let front : byte / 16 ≡ first.0 = omega arith in
    let back : byte % 16 ≡ second.0 = omega arith in
    (rw front (digit_spelt high first.0 first_read high_lower), rw back (digit_spelt low second.0 second_read low_lower))

-- pairs of digits without upper-case letters spell their bytes
pairs_spelt : (i : ℕ) (text bytes : List ℕ) → decode_pairs i text ≡ Ok bytes → list_all (λ c. not (is_ascii_uppercase c)) text ≡ true
    → encode_lower bytes ≡ text
unfolding decode_pairs encode_with
pairs_spelt i [] bytes h lower =
    let e : bytes ≡ [] = cc in
    rw e refl
pairs_spelt i (digit ∷ []) bytes h lower = cc h
pairs_spelt i (high ∷ low ∷ rest) bytes h lower =
    let first = bind_ok (pair_value high low i) _ bytes h in
    let others = bind_ok (decode_pairs (i + 2) rest) _ bytes first.2 in
    let high_lower = and_parts _ _ lower in
    let low_lower = and_parts _ _ high_lower.1 in
    let pair = pair_spelt high low i first.0 first.1 high_lower.0 low_lower.0 in
    let more = pairs_spelt (i + 2) rest others.0 others.1 low_lower.1 in
    let whole : bytes ≡ first.0 ∷ others.0 = cc others.2 in
    rw whole (rw (pair.0, pair.1, more) refl)

-- a text of digits without upper-case letters spells its bytes
pub lower_spelt : (text bytes : List ℕ) → decode_of text ≡ Ok bytes → list_all (λ c. not (is_ascii_uppercase c)) text ≡ true
    → encode_lower bytes ≡ text
lower_spelt text bytes h lower = pairs_spelt 0 text bytes (sym (decode_of-even text (decode_of-ok text bytes h).0) ∙ h) lower
