-- An event made up again from its six lines.
use Rattle.std.proofs.Common.{◌≡◌, ℕ, ◌+◌, ◌^◌, ◌<◌, Bool, true, false, List, [], ◌∷◌, is_some, Some, None, Ok, Err, Option, Result, sym, refl, ap, ◌∙◌, add-one, arith}
use lib.Bits.{bit_or, or_comm}
use Rattle.std.proofs.lemmas.Bool.{lt-ltb}
use Rattle.events.specs.Sets.{has, set_of}
use Rattle.events.proofs.SetLaws.{has-set_of, set_of_small, same_mask}
use Rattle.sources.specs.declared.source.SourceRefusal.{SourceRefusal}
use Rattle.sources.specs.declared.source.SourceRefusal.TheVariants.{NothingWaiting}
use Rattle.sources.specs.Waiting.{AllEvents, first_of, any_waiting, polled, or_nothing}

-- the lines below n of the first event
abbrev pub lines_below : Option ℕ → ℕ → ℕ
lines_below None n = 0
lines_below (Some event) n = set_of n (has event)

-- a poll that answers has an event that it answers of
polled-line : (first : Option ℕ) (line : ℕ) (on : Bool) → line < 6 → Ok on ≡ polled first line → (event : ℕ) × (first ≡ Some event) × (has event line ≡ on)
polled-line None line on l h =
    let a = lt-ltb line 6 l in
    let f : ◌≡◌ {A = Result Bool SourceRefusal} (Ok on) (Err NothingWaiting) = rw a at h in
    let z : ◌≡◌ {A = ℕ} 0 1 = cc in absurd (omega arith)
polled-line (Some event) line on l h =
    let a = lt-ltb line 6 l in
    let f : ◌≡◌ {A = Result Bool SourceRefusal} (Ok on) (Ok (has event line)) = rw a at h in
    (event, refl, cc)

pub polled_some : (first : Option ℕ) (line : ℕ) (on : Bool) → line < 6 → Ok on ≡ polled first line → is_some first ≡ true
polled_some first line on l h = ap is_some (polled-line first line on l h).1

set_of_on : (n : ℕ) (f : ℕ → Bool) → f n ≡ true → set_of (n + 1) f ≡ bit_or (2 ^ n) (set_of n f)
unfolding set_of
set_of_on n f h = let e = add-one n in rw (e, h)

set_of_off : (n : ℕ) (f : ℕ → Bool) → f n ≡ false → set_of (n + 1) f ≡ set_of n f
unfolding set_of
set_of_off n f h = let e = add-one n in rw (e, h)

module _ (first : Option ℕ) (line event : ℕ) (on : Bool) (l : line < 6) (h : Ok on ≡ polled first line) (inv : event ≡ lines_below first line) where
  -- one line more, on
  pub more_on : on ≡ true → bit_or event (2 ^ line) ≡ lines_below first (line + 1)
  more_on t =
      let p = polled-line first line on l h in
      let e : event ≡ set_of line (has p.0) = inv ∙ ap (λ (o : Option ℕ). lines_below o line) p.1 in
      or_comm event (2 ^ line) ∙ (ap (bit_or (2 ^ line)) e
      ∙ (sym (set_of_on line (has p.0) (p.2 ∙ t)) ∙ sym (ap (λ (o : Option ℕ). lines_below o (line + 1)) p.1)))

  -- one line more, off
  pub more_off : on ≡ false → event ≡ lines_below first (line + 1)
  more_off t =
      let p = polled-line first line on l h in
      let e : event ≡ set_of line (has p.0) = inv ∙ ap (λ (o : Option ℕ). lines_below o line) p.1 in
      e ∙ (sym (set_of_off line (has p.0) (p.2 ∙ t)) ∙ sym (ap (λ (o : Option ℕ). lines_below o (line + 1)) p.1))

-- no line yet
pub none_yet : (first : Option ℕ) → 0 ≡ lines_below first 0
unfolding set_of
none_yet None = refl
none_yet (Some event) = refl

-- all six
pub all_lines_lem : (events : List ℕ) (event : ℕ) → AllEvents events → event ≡ lines_below (first_of events) 6 → any_waiting events ≡ true → Ok event ≡ or_nothing (first_of events)
all_lines_lem [] event s e w = let z : ◌≡◌ {A = ℕ} 0 1 = cc in absurd (omega arith)
all_lines_lem (x ∷ later) event s e w = ap Ok (e ∙ same_mask 6 _ x (set_of_small 6 (has x)) s.0 (λ k l. has-set_of 6 (has x) k l))
