-- A change log is played run by run: the run of the next pair, and the run behind its first event.
use Rattle.std.proofs.Common.{◌≡◌, ℕ, zero, suc, ◌-◌, ◌<◌, ◌≤◌, true, false, ltb, List, [], ◌∷◌, ◌++◌, length, replicate, is_ok, Some, None, Option, Ok, Err, Result, sym, refl, ap, ◌∙◌, subst, ⊎_elim, arith}
use Rattle.std.proofs.lemmas.Nat.{xor_lt}
use Rattle.std.proofs.lemmas.Bool.{cases_lt, both_ways, cond_both, ltb-true, ltb-false}
use Rattle.codec.specs.declared.fault.CardFault.{CardFault}
use Rattle.codec.specs.Reading.{Read}
use Rattle.sources.specs.declared.change.Pair.{Pair}
use Rattle.sources.specs.declared.change.Run.{Run}
use Rattle.codec.specs.Number.{Octets}
use Rattle.std.specs.List.{AllByRecursion}
use Rattle.std.specs.Option.{ForSome}
use Rattle.sources.specs.ChangeLogs.{InRange, encode_pairs, expand, pair_at, pairs_from, pairs_or, checked_pairs, change_events, played_from, run_of, run_after, IsPlayable}
use Rattle.sources.specs.Small.{pair_range}
use Rattle.sources.specs.Waiting.{later_of}
use Rattle.sources.proofs.ChangeBytes.{log_complete}
use Rattle.sources.proofs.Pairs.{pushed, pairs_end, pairs_fault, pairs_more}

-- a run that is there
some_playable : {f : List ℕ} {run : Run} → IsPlayable f run → ForSome (Some run) (IsPlayable f)
some_playable p run e = subst (IsPlayable _) (inside_some e) p
  where
    inside_some : {x y : Run} → ◌≡◌ {A = Option Run} (Some x) (Some y) → x ≡ y
    inside_some h = cc

pub none_playable : {f : List ℕ} → ForSome None (IsPlayable f)
none_playable run e = let z : ◌≡◌ {A = ℕ} 0 1 = cc in absurd (omega arith)

pushed_whole : (pair : Pair) (r : Result (List Pair) CardFault) → is_ok (pushed pair r) ≡ true → (is_ok r ≡ true) × (pairs_or (pushed pair r) ≡ pair ∷ pairs_or r)
pushed_whole pair (Ok pairs) h = (refl, refl)
pushed_whole pair (Err fault) h = absurd (both_ways false refl h)

-- ---- the run of the next pair

module _ (f : List ℕ) (p : ℕ) (whole : is_ok (pairs_from f p) ≡ true) where
  -- where no pair is read, the log is at its end
  at_end : (fault : CardFault) → pair_at f p ≡ Err fault → length f ≤ p
  at_end fault e = ⊎_elim (λ l. absurd (both_ways _ (ap is_ok (pairs_fault f p fault l e)) whole)) (λ l. l) (cases_lt p (length f))

  pub next_sound : (event : ℕ) → event < 64 → ForSome (run_of event (pair_at f p)) (IsPlayable f)
  next_sound event small = go (pair_at f p) refl
    where
      go : (r : Result (Read Pair) CardFault) → pair_at f p ≡ r → ForSome (run_of event r) (IsPlayable f)
      go (Ok a) e =
          let range = pair_range f p a e in
          some_playable (record {
            small = xor_lt 6 event a.value.flips small range.1;
            some = omega (arith, range.0);
            whole = (pushed_whole a.value (pairs_from f a.next) (ap is_ok (sym (pairs_more f p a e)) ∙ whole)).0;
          })
      go (Err fault) e = none_playable

  pub next_plays : (event : ℕ) → played_from f (run_of event (pair_at f p)) ≡ expand event (pairs_or (pairs_from f p))
  next_plays event = go (pair_at f p) refl
    where
      go : (r : Result (Read Pair) CardFault) → pair_at f p ≡ r → played_from f (run_of event r) ≡ expand event (pairs_or (pairs_from f p))
      go (Ok a) e =
          let more = pairs_more f p a e in
          let push = (pushed_whole a.value (pairs_from f a.next) (ap is_ok (sym more) ∙ whole)).1 in
          sym (ap (λ (r : Result (List Pair) CardFault). expand event (pairs_or r)) more ∙ ap (expand event) push)
      go (Err fault) e = sym (ap (λ (r : Result (List Pair) CardFault). expand event (pairs_or r)) (pairs_end f p (at_end fault e)))

-- ---- the events of a run

later_some : (n event : ℕ) (later : List ℕ) → 0 < n → replicate (n - 1) event ++ later ≡ later_of (replicate n event ++ later)
later_some zero event later h = absurd (omega arith)
later_some (suc n) event later h = let e : suc n - 1 ≡ n = omega arith in rw e

module _ (f : List ℕ) (run : Run) (sound : IsPlayable f run) where
  pub after_sound : ForSome (run_after f run) (IsPlayable f)
  after_sound =
      cond_both (ltb 1 run.left) _ _ (λ r. ForSome r (IsPlayable f))
      (λ e. let l = ltb-true 1 run.left e in some_playable (record { small = sound.small; some = omega arith; whole = sound.whole }))
      (λ _. next_sound f run.next sound.whole run.current sound.small)

  pub after_plays : played_from f (run_after f run) ≡ later_of (played_from f (Some run))
  after_plays =
      cond_both (ltb 1 run.left) _ _ (λ r. played_from f r ≡ later_of (played_from f (Some run)))
      (λ _. later_some run.left run.current _ sound.some)
      (λ e.
      let l = ltb-false 1 run.left e in
      let one : run.left - 1 ≡ 0 = omega (arith, sound.some) in
      next_plays f run.next sound.whole run.current
      ∙ (sym (ap (λ (n : ℕ). replicate n run.current ++ expand run.current (pairs_or (pairs_from f run.next))) one)
      ∙ later_some run.left run.current _ sound.some))

-- ---- the beginning

-- the pairs of a log that the check takes
whole_from : (x : Result (List Pair) CardFault) → Ok tt ≡ checked_pairs x → is_ok x ≡ true
whole_from (Ok pairs) h = refl
whole_from (Err fault) h = let z : ◌≡◌ {A = ℕ} 0 1 = cc in absurd (omega arith)

-- those of one that it refuses
none_from : (fault : CardFault) (x : Result (List Pair) CardFault) → Err fault ≡ checked_pairs x → [] ≡ pairs_or x
none_from fault (Ok pairs) h = let z : ◌≡◌ {A = ℕ} 0 1 = cc in absurd (omega arith)
none_from fault (Err e) h = refl

module _ (f : List ℕ) where
  pub begin_sound : (run : Option Run) → Ok tt ≡ checked_pairs (pairs_from f 0) → run ≡ run_of 0 (pair_at f 0) → ForSome run (IsPlayable f)
  begin_sound run h e = subst (λ r. ForSome r (IsPlayable f)) (sym e) (next_sound f 0 (whole_from (pairs_from f 0) h) 0 (omega arith))

  pub begin_plays : (run : Option Run) → Ok tt ≡ checked_pairs (pairs_from f 0) → run ≡ run_of 0 (pair_at f 0) → played_from f run ≡ change_events f
  begin_plays run h e = ap (played_from f) e ∙ next_plays f 0 (whole_from (pairs_from f 0) h) 0

  -- a log that is refused
  pub refused_plays : (fault : CardFault) → Err fault ≡ checked_pairs (pairs_from f 0) → [] ≡ change_events f
  refused_plays fault h = ap (expand 0) (none_from fault (pairs_from f 0) h)

  -- what is played of the bytes of pairs in range
  pub plays_pairs : (events : List ℕ) → Octets f → events ≡ change_events f → (pairs : List Pair) → AllByRecursion InRange pairs → f ≡ encode_pairs pairs → events ≡ expand 0 pairs
  plays_pairs events octets e pairs r b = e ∙ ap (λ (r : Result (List Pair) CardFault). expand 0 (pairs_or r)) (log_complete f octets pairs r b)
