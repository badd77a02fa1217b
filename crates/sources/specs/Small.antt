-- That what each source means is a list of events, numbers below 64: a source gives this proof with its list. Lemmas, and no definitions that a contract is read by.
use Rattle.std.specs.Prelude.{◌≡◌, ℕ, zero, suc, ◌<◌, ◌≤◌, Bool, true, false, cond, ◌||◌, List, [], ◌∷◌, length, drop, replicate, Some, None, Option, Ok, Err, Result, bit_xor, nat_le, nat_lt, slice_index, refl}
use Rattle.std.proofs.Common.{arith, ap}
use Rattle.std.specs.List.{AllByRecursion}
use Rattle.std.specs.Option.{ForSome}
use Rattle.std.proofs.lemmas.Nat.{xor_lt}
use Rattle.std.proofs.ByRecursion.{All-append, All-drop, All-from_get_or}
use Rattle.std.proofs.lemmas.Bool.{ltb-false, or_parts}
use Rattle.codec.specs.declared.fault.CardFault.{CardFault}
use Rattle.codec.specs.declared.fault.CardFault.TheVariants as card
use Rattle.codec.specs.Reading.{Read}
use Rattle.codec.specs.Field.{field_at}
use Rattle.codec.specs.Number.{number_at}
use Rattle.codec.specs.Steps.{and_then}
use Rattle.codec.proofs.Steps.{inside_ok, then_ok, else_ok}
use Rattle.sources.specs.declared.change.Pair.{Pair}
use Rattle.sources.specs.declared.change.Run.{Run}
use Rattle.events.proofs.SetLaws.{set_of_small}
use Rattle.sources.specs.Wirings.{rewired, rewired_all}
use Rattle.sources.specs.Waiting.{AllEvents}
use Rattle.sources.specs.ChangeLogs.{expand, pair_at, pairs_within, pairs_from, pairs_or, played_from}

-- ---- a plain log

pub plain_small : (place : ℕ) (bytes : List ℕ) → ((k : ℕ) → k < length bytes → slice_index bytes k < 64) → AllEvents (drop place bytes)
plain_small place bytes h = All-drop (λ byte. byte < 64) place bytes (All-from_get_or (λ byte. byte < 64) bytes 0 h)

-- ---- a change log

-- a number that is read is in its range
pub field_range : (f : List ℕ) (p low high : ℕ) (n : Read ℕ) → field_at f p low high ≡ Ok n → (low ≤ n.value) × (n.value ≤ high)
field_range f p low high n h =
    let a = else_ok (nat_le (length f) p) _ _ n h in
    let b = then_ok card.Number (number_at f p) _ n a.1 in
    let d = else_ok (nat_lt b.0.value low || nat_lt high b.0.value) _ _ n b.2 in
    let e : b.0 ≡ n = inside_ok d.1 in
    let parts = or_parts _ _ d.0 in
    rw (← e) (ltb-false _ _ parts.0, ltb-false _ _ parts.1)

-- the two numbers of a pair that is read
pub pair_parts : (f : List ℕ) (p : ℕ) (a : Read Pair) → pair_at f p ≡ Ok a
    → (count : Read ℕ) × (flips : Read ℕ) × (field_at f p 1 16383 ≡ Ok count) × (field_at f count.next 0 63 ≡ Ok flips)
    × (record { value = record { count = count.value; flips = flips.value }; next = flips.next } ≡ a)
pair_parts f p a h =
    let x = then_ok (λ (e : CardFault). e) (field_at f p 1 16383) _ a h in
    let y = then_ok (λ (e : CardFault). e) (field_at f x.0.next 0 63) _ a x.2 in
    (x.0, y.0, x.1, y.1, inside_ok y.2)

-- a pair that is read has some events, and turns over lines
pub pair_range : (f : List ℕ) (p : ℕ) (a : Read Pair) → pair_at f p ≡ Ok a → (0 < a.value.count) × (a.value.flips < 64)
pair_range f p a h =
    let x = pair_parts f p a h in
    let c = field_range f p 1 16383 x.0 x.2 in
    let d = field_range f x.0.next 0 63 x.1 x.3 in
    let e : x.0.value ≡ a.value.count = ap (λ n. n.value.count) x.4 in
    let g : x.1.value ≡ a.value.flips = ap (λ n. n.value.flips) x.4 in
    (omega (arith, c.0), omega (arith, d.1))

-- each pair turns over lines
abbrev Flips : List Pair → Type 0
Flips pairs = AllByRecursion (λ pair. pair.flips < 64) pairs

pairs_small : (k : ℕ) (f : List ℕ) (p : ℕ) → Flips (pairs_or (pairs_within k f p))
unfolding pairs_within
pairs_small zero f p = tt
pairs_small (suc k) f p = whether (nat_le (length f) p) _ (first (pair_at f p) refl (λ q. pairs_small k f q))
  where
    push : (pair : Pair) (r : Result (List Pair) CardFault) → pair.flips < 64 → Flips (pairs_or r) → Flips (pairs_or (and_then (λ e. e) r (λ pairs. Ok (pair ∷ pairs))))
    push pair (Ok pairs) h t = (h, t)
    push pair (Err fault) h t = tt

    first : (r : Result (Read Pair) CardFault) → pair_at f p ≡ r → ((q : ℕ) → Flips (pairs_or (pairs_within k f q)))
        → Flips (pairs_or (and_then (λ e. e) r (λ pair. and_then (λ e. e) (pairs_within k f pair.next) (λ pairs. Ok (pair.value ∷ pairs)))))
    first (Ok a) e later = push a.value (pairs_within k f a.next) (pair_range f p a e).1 (later a.next)
    first (Err fault) e later = tt

    whether : (b : Bool) (r : Result (List Pair) CardFault) → Flips (pairs_or r) → Flips (pairs_or (cond b (Ok []) r))
    whether true r t = tt
    whether false r t = t

same_small : (n event : ℕ) → event < 64 → AllEvents (replicate n event)
same_small zero event h = tt
same_small (suc n) event h = (h, same_small n event h)

expand_small : (pairs : List Pair) (event : ℕ) → event < 64 → Flips pairs → AllEvents (expand event pairs)
expand_small [] event h t = tt
expand_small (pair ∷ pairs) event h t =
    let next : bit_xor event pair.flips < 64 = xor_lt 6 event pair.flips h t.0 in
    All-append (λ e. e < 64) _ _ (same_small pair.count _ next) (expand_small pairs (bit_xor event pair.flips) next t.1)

-- what is left of a change log
pub change_small : (f : List ℕ) (run : Option Run) → ForSome run (λ r. r.current < 64) → AllEvents (played_from f run)
change_small f None h = tt
change_small f (Some run) h =
    let low : run.current < 64 = h run refl in
    All-append (λ e. e < 64) _ _ (same_small run.left run.current low)
    (expand_small (pairs_or (pairs_from f run.next)) run.current low (pairs_small (length f) f run.next))

-- ---- a wiring

pub rewired_small : (entries : List ℕ) (turned : ℕ) (events : List ℕ) → AllEvents (rewired_all entries turned events)
unfolding rewired
rewired_small entries turned [] = tt
rewired_small entries turned (event ∷ later) = (set_of_small 6 _, rewired_small entries turned later)
