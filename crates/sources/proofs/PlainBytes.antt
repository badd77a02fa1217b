-- A plain log is taken exactly where each byte is an event.
use Rattle.std.proofs.Common.{◌≡◌, ℕ, ◌+◌, Bool, true, false, cond, ltb, List, [], ◌∷◌, is_ok, not, Some, None, Ok, Err, Decides, Result, refl, ap}
use Rattle.std.specs.List.{position_from}
use Rattle.std.proofs.lemmas.Bool.{lt-ltb, ltb-true, both_ways}
use Rattle.codec.specs.declared.fault.CardFault.{CardFault}
use Rattle.codec.specs.declared.fault.CardFault.TheVariants.{Range}
use Rattle.sources.specs.PlainLogs.{log_from}
use Rattle.sources.specs.Waiting.{AllEvents}

-- a log without a byte that is no event is taken
pub log_taken : (p : ℕ) (bytes : List ℕ) → position_from (λ byte. not (ltb byte 64)) p bytes ≡ None → log_from p bytes ≡ Ok tt
unfolding log_from
log_taken p [] h = refl
log_taken p (byte ∷ bytes) h = go (ltb byte 64) h (log_taken (p + 1) bytes)
  where
    go : (b : Bool) → cond (not b) (Some p) (position_from (λ byte. not (ltb byte 64)) (p + 1) bytes) ≡ None → (position_from (λ byte. not (ltb byte 64)) (p + 1) bytes ≡ None → log_from (p + 1) bytes ≡ Ok tt)
        → cond b (log_from (p + 1) bytes) (Err (Range p)) ≡ Ok tt
    go true h rest = rest h
    go false h rest = absurd cc

-- the first byte that is no event is the fault
pub log_fault : (p : ℕ) (bytes : List ℕ) (i : ℕ) → position_from (λ byte. not (ltb byte 64)) p bytes ≡ Some i → log_from p bytes ≡ Err (Range i)
unfolding log_from
log_fault p [] i h = absurd cc
log_fault p (byte ∷ bytes) i h = go (ltb byte 64) h (log_fault (p + 1) bytes i)
  where
    go : (b : Bool) → cond (not b) (Some p) (position_from (λ byte. not (ltb byte 64)) (p + 1) bytes) ≡ Some i → (position_from (λ byte. not (ltb byte 64)) (p + 1) bytes ≡ Some i → log_from (p + 1) bytes ≡ Err (Range i))
        → cond b (log_from (p + 1) bytes) (Err (Range p)) ≡ Err (Range i)
    go true h rest = rest h
    go false h rest = let q : p ≡ i = cc in ap (λ k. Err (Range k)) q

taken_events : (p : ℕ) (bytes : List ℕ) → is_ok (log_from p bytes) ≡ true → AllEvents bytes
unfolding log_from
taken_events p [] h = tt
taken_events p (byte ∷ bytes) h = go (ltb byte 64) refl h (taken_events (p + 1) bytes)
  where
    go : (b : Bool) → ltb byte 64 ≡ b → is_ok (cond b (log_from (p + 1) bytes) (Err (Range p))) ≡ true → (is_ok (log_from (p + 1) bytes) ≡ true → AllEvents bytes) → AllEvents (byte ∷ bytes)
    go true e t rest = (ltb-true byte 64 e, rest t)
    go false e t rest = absurd (both_ways false refl t)

events_taken : (p : ℕ) (bytes : List ℕ) → AllEvents bytes → is_ok (log_from p bytes) ≡ true
unfolding log_from
events_taken p [] h = refl
events_taken p (byte ∷ bytes) h = let e = lt-ltb byte 64 h.0 in rw e (events_taken (p + 1) bytes h.1)

-- a plain log is taken exactly where each byte is an event
pub log_exact : (bytes : List ℕ) → Decides (is_ok (log_from 0 bytes)) (AllEvents bytes)
log_exact bytes = (taken_events 0 bytes, events_taken 0 bytes)

pub log_exact_at : (bytes : List ℕ) (r : Result (Unit {0}) CardFault) → r ≡ log_from 0 bytes → Decides (is_ok r) (AllEvents bytes)
log_exact_at bytes r e = rw e (log_exact bytes)
