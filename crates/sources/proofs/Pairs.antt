-- Pairs read one after the other: what is at a place, and that a place comes behind it.
use Rattle.std.proofs.Common.{◌≡◌, ℕ, zero, suc, ◌+◌, ◌<◌, ◌≤◌, ◌||◌, eqb, ltb, leb, List, [], ◌∷◌, length, get_or, IfOk, Ok, Err, Result, sym, refl, ap, ◌∙◌, ⊎_elim, arith}
use Rattle.std.proofs.lemmas.Result.{MatchResult-at_ok}
use Rattle.std.proofs.lemmas.Bool.{cases_lt, cond_both, le-leb, lt-leb, leb-false}
use Rattle.codec.specs.declared.fault.CardFault.{CardFault}
use Rattle.codec.specs.declared.fault.NumberFault.{NumberFault}
use Rattle.codec.specs.declared.fault.CardFault.TheVariants as card
use Rattle.codec.specs.Reading.{Read}
use Rattle.codec.specs.Field.{field_at}
use Rattle.codec.specs.Number.{number_at}
use Rattle.codec.specs.Steps.{and_then}
use Rattle.codec.proofs.Steps.{inside_ok, then_ok, else_ok}
use Rattle.sources.specs.declared.change.Pair.{Pair}
use Rattle.sources.specs.ChangeLogs.{pair_at, pairs_within, pairs_from}
use Rattle.sources.specs.Small.{pair_parts}

-- a number ends behind its place
Later : ℕ → Result (Read ℕ) NumberFault → Type 0
Later p r = IfOk r (λ n. p < n.next)

number_later : (f : List ℕ) (p : ℕ) → Later p (number_at f p)
unfolding Later
number_later f p =
    cond_both (leb (length f) p) _ _ (Later p) (λ _. tt) (λ _.
    cond_both (ltb (get_or f p 0) 128) _ _ (Later p) (λ _. omega arith) (λ _.
    cond_both (leb (length f) (p + 1)) _ _ (Later p) (λ _. tt) (λ _.
    cond_both (eqb (get_or f (p + 1) 0) 0) _ _ (Later p) (λ _. tt) (λ _.
    cond_both (ltb (get_or f (p + 1) 0) 128) _ _ (Later p) (λ _. omega arith) (λ _.
    cond_both (leb (length f) (p + 2)) _ _ (Later p) (λ _. tt) (λ _.
    cond_both (eqb (get_or f (p + 2) 0) 0 || leb 128 (get_or f (p + 2) 0)) _ _ (Later p) (λ _. tt) (λ _. omega arith)))))))

-- what a number with a range is read from
field_from : (f : List ℕ) (p low high : ℕ) (n : Read ℕ) → field_at f p low high ≡ Ok n → (p < length f) × (p < n.next)
unfolding Later
field_from f p low high n h =
    let a = else_ok (leb (length f) p) _ _ n h in
    let b = then_ok card.Number (number_at f p) _ n a.1 in
    let d = else_ok (ltb b.0.value low || ltb high b.0.value) _ _ n b.2 in
    let e : b.0 ≡ n = inside_ok d.1 in
    let l = MatchResult-at_ok (λ m. p < m.next) (λ _. Unit {0}) _ b.1 (number_later f p) in
    (leb-false (length f) p a.0, rw (← e) l)

-- a pair is read before the end, and ends behind its place
pub pair_from : (f : List ℕ) (p : ℕ) (a : Read Pair) → pair_at f p ≡ Ok a → (p < length f) × (p < a.next)
pair_from f p a h =
    let x = pair_parts f p a h in
    let c = field_from f p 1 16383 x.0 x.2 in
    let d = field_from f x.0.next 0 63 x.1 x.3 in
    let e : x.1.next ≡ a.next = ap (λ n. n.next) x.4 in
    (c.0, omega (arith, c.1, d.1, e))

-- ---- how many pairs are asked for does not matter

-- a pair before others
abbrev pub pushed : Pair → Result (List Pair) CardFault → Result (List Pair) CardFault
pushed pair r = and_then (λ e. e) r (λ pairs. Ok (pair ∷ pairs))

pub within_end : (k : ℕ) (f : List ℕ) (p : ℕ) → length f ≤ p → pairs_within k f p ≡ Ok []
unfolding pairs_within
within_end zero f p h = refl
within_end (suc k) f p h = let e = le-leb (length f) p h in rw e

-- the pair at a place, then the others
abbrev step : ℕ → List ℕ → Result (Read Pair) CardFault → Result (List Pair) CardFault
step k f r = and_then (λ e. e) r (λ pair. pushed pair.value (pairs_within k f pair.next))

within_step : (k : ℕ) (f : List ℕ) (p : ℕ) → p < length f → pairs_within (suc k) f p ≡ step k f (pair_at f p)
unfolding pairs_within
within_step k f p h = let e = lt-leb (length f) p h in rw e

enough_step : (k m : ℕ) (f : List ℕ) (p : ℕ) → ((q : ℕ) → p < q → pairs_within k f q ≡ pairs_within m f q) → p < length f
    → pairs_within (suc k) f p ≡ pairs_within (suc m) f p
enough_step k m f p same h = within_step k f p h ∙ (go (pair_at f p) refl ∙ sym (within_step m f p h))
  where
    go : (r : Result (Read Pair) CardFault) → pair_at f p ≡ r → step k f r ≡ step m f r
    go (Ok a) e = ap (pushed a.value) (same a.next (pair_from f p a e).1)
    go (Err d) e = refl

enough : (k m : ℕ) (f : List ℕ) (p : ℕ) → length f ≤ p + k → length f ≤ p + m → pairs_within k f p ≡ pairs_within m f p
enough zero m f p hk hm = within_end zero f p (omega arith) ∙ sym (within_end m f p (omega arith))
enough (suc k) zero f p hk hm = within_end (suc k) f p (omega arith) ∙ sym (within_end zero f p (omega arith))
enough (suc k) (suc m) f p hk hm =
    ⊎_elim (enough_step k m f p (λ q l. enough k m f q (omega arith) (omega arith)))
    (λ h. within_end (suc k) f p h ∙ sym (within_end (suc m) f p h))
    (cases_lt p (length f))

-- ---- one place after the other

pub pairs_end : (f : List ℕ) (p : ℕ) → length f ≤ p → pairs_from f p ≡ Ok []
pairs_end f p h = within_end (length f) f p h

pairs_step : (f : List ℕ) (p : ℕ) → p < length f → pairs_from f p ≡ step (length f) f (pair_at f p)
pairs_step f p h = enough (length f) (suc (length f)) f p (omega arith) (omega arith) ∙ within_step (length f) f p h

pub pairs_fault : (f : List ℕ) (p : ℕ) (fault : CardFault) → p < length f → pair_at f p ≡ Err fault → pairs_from f p ≡ Err fault
pairs_fault f p fault h e = pairs_step f p h ∙ ap (step (length f) f) e

pub pairs_more : (f : List ℕ) (p : ℕ) (a : Read Pair) → pair_at f p ≡ Ok a → pairs_from f p ≡ pushed a.value (pairs_from f a.next)
pairs_more f p a e = pairs_step f p (pair_from f p a e).0 ∙ ap (step (length f) f) e
