-- A change log is taken exactly where its bytes are those of pairs in range, and refused for its leftmost fault.
use Rattle.std.proofs.Common.{◌≡◌, ℕ, zero, suc, ◌+◌, ◌<◌, ◌≤◌, true, List, [], ◌∷◌, ◌++◌, length, drop, is_ok, IfErr, Ok, Err, Decides, Result, sym, refl, ap, ◌∙◌, subst, ⊎_elim, zero-add, arith}
use Rattle.std.specs.List.{AllByRecursion}
use Rattle.std.proofs.lemmas.List.{append-nil, drop_all, length-drop}
use Rattle.std.proofs.lemmas.Bool.{cases_lt}
use Rattle.codec.specs.declared.fault.CardFault.{CardFault}
use Rattle.codec.specs.declared.fault.CardFault.TheVariants as card
use Rattle.codec.specs.Reading.{Read}
use Rattle.codec.specs.Number.{encode, Octets}
use Rattle.codec.proofs.Fields.{ranged_sound, ranged_complete}
use Rattle.codec.proofs.Spans.{Spans, join, split, span_end, span_none}
use Rattle.codec.proofs.Steps.{inside_ok}
use Rattle.sources.specs.declared.change.Pair.{Pair}
use Rattle.sources.specs.ChangeLogs.{InRange, encode_pair, encode_pairs, pair_at, pairs_from, checked_pairs, IsChangeLog, LeftmostFault}
use Rattle.sources.specs.Small.{pair_parts}
use Rattle.sources.proofs.Pairs.{pair_from, pushed, pairs_end, pairs_fault, pairs_more}

-- what was pushed
pushed_ok : (pair : Pair) (r : Result (List Pair) CardFault) (pairs : List Pair) → pushed pair r ≡ Ok pairs → (rest : List Pair) × (r ≡ Ok rest) × (pairs ≡ pair ∷ rest)
pushed_ok pair (Ok rest) pairs h = (rest, refl, sym (inside_ok h))
pushed_ok pair (Err e) pairs h = let z : ◌≡◌ {A = ℕ} 0 1 = cc in absurd (omega arith)

pushed_err : (pair : Pair) (r : Result (List Pair) CardFault) (fault : CardFault) → pushed pair r ≡ Err fault → r ≡ Err fault
pushed_err pair (Ok rest) fault h = let z : ◌≡◌ {A = ℕ} 0 1 = cc in absurd (omega arith)
pushed_err pair (Err e) fault h = cc

ok_not_err : {A E : Type 0} {P : Type 0} (a : A) (e : E) (r : Result A E) → r ≡ Ok a → r ≡ Err e → P
ok_not_err a e r p q = let z : ◌≡◌ {A = ℕ} 0 1 = cc in absurd (omega arith)

inside_err : {A E : Type 0} {x y : E} → ◌≡◌ {A = Result A E} (Err x) (Err y) → x ≡ y
inside_err h = cc

module _ (f : List ℕ) (octets : Octets f) where
  -- a pair that is read is the bytes of a pair in range
  pair_sound : (p : ℕ) (a : Read Pair) → pair_at f p ≡ Ok a → InRange a.value × Spans f p (encode_pair a.value) a.next
  pair_sound p a h =
      let x = pair_parts f p a h in
      let c = ranged_sound card.Short card.Number card.Range f octets p 1 16383 x.0 x.2 in
      let d = ranged_sound card.Short card.Number card.Range f octets x.0.next 0 63 x.1 x.3 in
      subst (λ (n : Read Pair). InRange n.value × Spans f p (encode_pair n.value) n.next) x.4
      (record { some = c.0; counted = c.1; lines = d.1 }, join f p x.0.next x.1.next (encode x.0.value) (encode x.1.value) c.2 d.2)

  -- and the bytes of a pair in range are read
  pair_complete : (p q : ℕ) (pair : Pair) → InRange pair → p ≤ length f → Spans f p (encode_pair pair) q → pair_at f p ≡ Ok (record { value = pair; next = q })
  pair_complete p q pair r h s =
      let t = split f p q (encode pair.count) (encode pair.flips) h s in
      let m : ℕ = p + length (encode pair.count) in
      let c = ranged_complete card.Short card.Number card.Range f octets p 1 16383 pair.count m (omega arith) r.some r.counted h t.0 in
      let d = ranged_complete card.Short card.Number card.Range f octets m 0 63 pair.flips q (omega arith) (omega arith) r.lines t.0.inside t.1 in
      rw (c, d)

  -- the pairs up to the end
  Reads : ℕ → Type 0
  Reads p = (pairs : List Pair) → pairs_from f p ≡ Ok pairs → p ≤ length f → AllByRecursion InRange pairs × Spans f p (encode_pairs pairs) (length f)

  pairs_sound_step : (p : ℕ) → p < length f → ((q : ℕ) → p < q → Reads q) → Reads p
  unfolding Reads
  pairs_sound_step p l later pairs h b = go (pair_at f p) refl
    where
      go : (r : Result (Read Pair) CardFault) → pair_at f p ≡ r → AllByRecursion InRange pairs × Spans f p (encode_pairs pairs) (length f)
      go (Ok a) e =
          let s = pair_sound p a e in
          let x = pushed_ok a.value (pairs_from f a.next) pairs (sym (pairs_more f p a e) ∙ h) in
          let t = later a.next (pair_from f p a e).1 x.0 x.1 s.1.inside in
          subst (λ (ps : List Pair). AllByRecursion InRange ps × Spans f p (encode_pairs ps) (length f)) (sym x.2)
          ((s.0, t.0), join f p a.next (length f) (encode_pair a.value) (encode_pairs x.0) s.1 t.1)
      go (Err d) e = ok_not_err pairs d (pairs_from f p) h (pairs_fault f p d l e)

  pairs_sound_end : (p : ℕ) → length f ≤ p → Reads p
  unfolding Reads
  pairs_sound_end p b pairs h l =
      let none : [] ≡ pairs = inside_ok (sym (pairs_end f p b) ∙ h) in
      let same : p ≡ length f = omega arith in
      subst (λ (ps : List Pair). AllByRecursion InRange ps × Spans f p (encode_pairs ps) (length f)) none
      (tt, subst (λ (q : ℕ). Spans f p [] q) same (span_none f p l))

  pairs_sound_within : (k p : ℕ) → length f ≤ p + k → Reads p
  pairs_sound_within zero p b = pairs_sound_end p (omega arith)
  pairs_sound_within (suc k) p b =
      ⊎_elim (λ l. pairs_sound_step p l (λ q m. pairs_sound_within k q (omega arith))) (λ l. pairs_sound_end p l) (cases_lt p (length f))

  -- pairs in range are read
  pairs_complete : (pairs : List Pair) (p : ℕ) → AllByRecursion InRange pairs → p ≤ length f → Spans f p (encode_pairs pairs) (length f) → pairs_from f p ≡ Ok pairs
  pairs_complete [] p r l s = let e = span_end f p (length f) [] l s in pairs_end f p (omega arith)
  pairs_complete (pair ∷ pairs) p r l s =
      let t = split f p (length f) (encode_pair pair) (encode_pairs pairs) l s in
      let q : ℕ = p + length (encode_pair pair) in
      let e = pair_complete p q pair r.0 l t.0 in
      pairs_more f p _ e ∙ ap (pushed pair) (pairs_complete pairs q r.1 t.0.inside t.1)

  -- the leftmost fault, from a place on
  HasFault : ℕ → Type 0
  HasFault p = (fault : CardFault) → pairs_from f p ≡ Err fault → p ≤ length f
      → (pairs : List Pair) × (q : ℕ) × AllByRecursion InRange pairs × Spans f p (encode_pairs pairs) q × (q < length f) × (pair_at f q ≡ Err fault)

  left_step : (p : ℕ) → p < length f → ((q : ℕ) → p < q → HasFault q) → HasFault p
  unfolding HasFault
  left_step p l later fault h b = go (pair_at f p) refl
    where
      go : (r : Result (Read Pair) CardFault) → pair_at f p ≡ r
          → (pairs : List Pair) × (q : ℕ) × AllByRecursion InRange pairs × Spans f p (encode_pairs pairs) q × (q < length f) × (pair_at f q ≡ Err fault)
      go (Ok a) e =
          let s = pair_sound p a e in
          let x = later a.next (pair_from f p a e).1 fault (pushed_err a.value (pairs_from f a.next) fault (sym (pairs_more f p a e) ∙ h)) s.1.inside in
          (a.value ∷ x.0, x.1, (s.0, x.2), join f p a.next x.1 (encode_pair a.value) (encode_pairs x.0) s.1 x.3, x.4, x.5)
      go (Err d) e = ([], p, tt, span_none f p b, l, e ∙ ap Err (inside_err (sym (pairs_fault f p d l e) ∙ h)))

  left_end : (p : ℕ) → length f ≤ p → HasFault p
  unfolding HasFault
  left_end p b fault h l = ok_not_err [] fault (pairs_from f p) (pairs_end f p b) h

  left_within : (k p : ℕ) → length f ≤ p + k → HasFault p
  left_within zero p b = left_end p (omega arith)
  left_within (suc k) p b =
      ⊎_elim (λ l. left_step p l (λ q m. left_within k q (omega arith))) (λ l. left_end p l) (cases_lt p (length f))

  -- ---- of the whole log

  whole_bytes : (bytes : List ℕ) → Spans f 0 bytes (length f) → f ≡ bytes
  whole_bytes bytes s = let none = drop_all (length f) f (omega arith) in s.are ∙ ap (λ (rest : List ℕ). bytes ++ rest) none ∙ append-nil bytes

  bytes_whole : (bytes : List ℕ) → f ≡ bytes → Spans f 0 bytes (length f)
  bytes_whole bytes e =
      let none = drop_all (length f) f (omega arith) in
      record { are = e ∙ sym (ap (λ (rest : List ℕ). bytes ++ rest) none ∙ append-nil bytes); inside = omega arith }

  -- what is read of a whole log
  pub log_sound : (pairs : List Pair) → pairs_from f 0 ≡ Ok pairs → AllByRecursion InRange pairs × (f ≡ encode_pairs pairs)
  unfolding Reads
  log_sound pairs h = let s = pairs_sound_within (length f) 0 (omega arith) pairs h (omega arith) in (s.0, whole_bytes (encode_pairs pairs) s.1)

  pub log_complete : (pairs : List Pair) → AllByRecursion InRange pairs → f ≡ encode_pairs pairs → pairs_from f 0 ≡ Ok pairs
  log_complete pairs r e = pairs_complete pairs 0 r (omega arith) (bytes_whole (encode_pairs pairs) e)

  pub log_left : (fault : CardFault) → pairs_from f 0 ≡ Err fault → LeftmostFault f fault
  unfolding HasFault
  log_left fault h =
      let x = left_within (length f) 0 (omega arith) fault h (omega arith) in
      let q : x.1 ≡ length (encode_pairs x.0) = span_end f 0 x.1 (encode_pairs x.0) (omega arith) x.3 ∙ zero-add _ in
      let some : 0 < length (drop x.1 f) = simp length-drop (omega (arith, x.4)) in
      (x.0, drop x.1 f, x.2, x.3.are, some, subst (λ (n : ℕ). pair_at f n ≡ Err fault) q x.5)

-- ---- of what the check answers

checked_pushed : (pair : Pair) (r : Result (List Pair) CardFault) → checked_pairs (pushed pair r) ≡ checked_pairs r
checked_pushed pair (Ok pairs) = refl
checked_pushed pair (Err fault) = refl

-- no pair is left
pub check_end : (f : List ℕ) (p : ℕ) → length f ≤ p → checked_pairs (pairs_from f p) ≡ Ok tt
check_end f p h = ap checked_pairs (pairs_end f p h)

-- the pair here has a fault
pub check_fault : (f : List ℕ) (p : ℕ) (fault : CardFault) → p < length f → Err fault ≡ pair_at f p → checked_pairs (pairs_from f p) ≡ Err fault
check_fault f p fault h e = ap checked_pairs (pairs_fault f p fault h (sym e))

-- the pair here is taken
pub check_more : (f : List ℕ) (p : ℕ) (a : Read Pair) → Ok a ≡ pair_at f p → checked_pairs (pairs_from f p) ≡ checked_pairs (pairs_from f a.next)
check_more f p a e = ap checked_pairs (pairs_more f p a (sym e)) ∙ checked_pushed a.value (pairs_from f a.next)

-- taken exactly where the bytes are those of pairs in range
pub changes_exact : (f : List ℕ) (r : Result (Unit {0}) CardFault) → Octets f → r ≡ checked_pairs (pairs_from f 0) → Decides (is_ok r) (IsChangeLog f)
changes_exact f r octets e = (taken (pairs_from f 0) refl, complete)
  where
    taken : (x : Result (List Pair) CardFault) → pairs_from f 0 ≡ x → is_ok r ≡ true → IsChangeLog f
    taken (Ok pairs) h t = let s = log_sound f octets pairs h in (pairs, s.0, s.1)
    taken (Err fault) h t =
        let z : r ≡ Err fault = e ∙ ap checked_pairs h in
        let b = ap is_ok z in
        let n : ◌≡◌ {A = ℕ} 0 1 = cc in absurd (omega arith)

    complete : IsChangeLog f → is_ok r ≡ true
    complete log = ap is_ok (e ∙ ap checked_pairs (log_complete f octets log.0 log.1 log.2))

-- refused for the leftmost fault
pub changes_leftmost : (f : List ℕ) (r : Result (Unit {0}) CardFault) → Octets f → r ≡ checked_pairs (pairs_from f 0) → IfErr r (LeftmostFault f)
changes_leftmost f r octets e = go (pairs_from f 0) refl
  where
    go : (x : Result (List Pair) CardFault) → pairs_from f 0 ≡ x → IfErr r (LeftmostFault f)
    go (Ok pairs) h = let z : r ≡ Ok tt = e ∙ ap checked_pairs h in rw z tt
    go (Err fault) h = let z : r ≡ Err fault = e ∙ ap checked_pairs h in rw z (log_left f octets fault h)
