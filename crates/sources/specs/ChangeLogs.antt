-- What a change log is: pairs of numbers, each a count and the lines that are turned over before it.
use Rattle.std.specs.Prelude.{◌≡◌, ℕ, zero, suc, ◌-◌, ◌<◌, ◌≤◌, cond, List, [], ◌∷◌, ◌++◌, length, replicate, true, is_ok, Some, None, Option, Ok, Err, Result, bit_xor, nat_le, nat_lt}
use Rattle.std.specs.List.{AllByRecursion}
use Rattle.codec.specs.declared.fault.CardFault.{CardFault}
use Rattle.codec.specs.Reading.{Read}
use Rattle.codec.specs.Field.{field_at}
use Rattle.codec.specs.Number.{encode}
use Rattle.codec.specs.Steps.{and_then}
use Rattle.sources.specs.declared.change.Pair.{Pair}
use Rattle.sources.specs.declared.change.Run.{Run}

-- ---- what a change log is, and what it means

-- the numbers of a pair are in their ranges
pub record InRange (pair : Pair) : Type 0 where
  pub some : 1 ≤ pair.count
  pub counted : pair.count ≤ 16383
  pub lines : pair.flips ≤ 63

-- the bytes of a pair: its count, then its flips
abbrev pub encode_pair : Pair → List ℕ
encode_pair pair = encode pair.count ++ encode pair.flips

-- the bytes of a log: those of its pairs, one after the other
abbrev pub encode_pairs : List Pair → List ℕ
encode_pairs [] = []
encode_pairs (pair ∷ pairs) = encode_pair pair ++ encode_pairs pairs

-- the events of the pairs behind an event: each pair turns over its flipped lines, and the new event comes count times
abbrev pub expand : ℕ → List Pair → List ℕ
expand event [] = []
expand event (pair ∷ pairs) = replicate pair.count (bit_xor event pair.flips) ++ expand (bit_xor event pair.flips) pairs

-- the bytes are those of some pairs, each in range
abbrev pub IsChangeLog : List ℕ → Type 0
IsChangeLog bytes = (pairs : List Pair) × AllByRecursion InRange pairs × (bytes ≡ encode_pairs pairs)

-- ---- reading, by the bytes at a place

-- the pair that begins at a place; the first fault from left to right
abbrev pub pair_at : List ℕ → ℕ → Result (Read Pair) CardFault
pair_at bytes place =
    and_then (λ e. e) (field_at bytes place 1 16383) (λ count.
    and_then (λ e. e) (field_at bytes count.next 0 63) (λ flips.
    Ok (record { value = record { count = count.value; flips = flips.value }; next = flips.next })))

-- at most so many pairs, from a place up to the end of the bytes; the first fault from left to right
unfoldable pub pairs_within : ℕ → List ℕ → ℕ → Result (List Pair) CardFault
pairs_within zero bytes place = Ok []
pairs_within (suc most) bytes place =
    cond (nat_le (length bytes) place) (Ok [])
    (and_then (λ e. e) (pair_at bytes place) (λ pair.
    and_then (λ e. e) (pairs_within most bytes pair.next) (λ pairs.
    Ok (pair.value ∷ pairs))))

-- the pairs from a place on: there are never more pairs than bytes
abbrev pub pairs_from : List ℕ → ℕ → Result (List Pair) CardFault
pairs_from bytes place = pairs_within (length bytes) bytes place

-- a change log is taken, or refused for its leftmost fault
abbrev pub checked_pairs : Result (List Pair) CardFault → Result (Unit {0}) CardFault
checked_pairs pairs = and_then (λ e. e) pairs (λ _. Ok tt)

-- the leftmost fault: whole pairs in range stand before it, and the pair behind them has it
abbrev pub LeftmostFault : List ℕ → CardFault → Type 0
LeftmostFault bytes fault =
    (pairs : List Pair) × (rest : List ℕ) × AllByRecursion InRange pairs × (bytes ≡ encode_pairs pairs ++ rest) × (0 < length rest)
    × (pair_at bytes (length (encode_pairs pairs)) ≡ Err fault)

-- ---- playing

-- the pairs that were read, or none where they are refused
abbrev pub pairs_or : Result (List Pair) CardFault → List Pair
pairs_or (Ok pairs) = pairs
pairs_or (Err fault) = []

-- the events of a change log; none where it is refused
abbrev pub change_events : List ℕ → List ℕ
change_events bytes = expand 0 (pairs_or (pairs_from bytes 0))

-- the run of a pair behind an event: the event with its flipped lines turned over, and how often that comes; none where no pair can be read
abbrev pub run_of : ℕ → Result (Read Pair) CardFault → Option Run
run_of event (Ok pair) = Some (record { next = pair.next; current = bit_xor event pair.value.flips; left = pair.value.count })
run_of event (Err fault) = None

-- what a run leaves once its event came: one less, or the run of the next pair
abbrev pub run_after : List ℕ → Run → Option Run
run_after bytes run =
    cond (nat_lt 1 run.left) (Some (record { next = run.next; current = run.current; left = run.left - 1 }))
    (run_of run.current (pair_at bytes run.next))

-- what is left to play: the rest of the run, then the pairs behind it
abbrev pub played_from : List ℕ → Option Run → List ℕ
played_from bytes None = []
played_from bytes (Some run) = replicate run.left run.current ++ expand run.current (pairs_or (pairs_from bytes run.next))

-- a run that can be played: its event is one, it is still to come, and behind it stand whole pairs in range
pub record IsPlayable (bytes : List ℕ) (run : Run) : Type 0 where
  pub small : run.current < 64
  pub some : 0 < run.left
  pub whole : is_ok (pairs_from bytes run.next) ≡ true
