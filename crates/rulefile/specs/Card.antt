-- What reading a card answers, by the bytes of the file.
use Rattle.std.specs.Prelude.{ℕ, zero, suc, ◌+◌, ◌-◌, ◌%◌, Bool, cond, not, ◌&&◌, List, length, take, drop, Ok, Err, Result, ◌==◌, nat_le, slice_index}
use Rattle.std.specs.Borrow.{Bor}
use Rattle.codec.specs.declared.fault.CardFault.{CardFault}
use Rattle.codec.specs.declared.fault.CardFault.TheVariants as fault
use Rattle.codec.specs.Reading.{Read}
use Rattle.codec.specs.Field.{field_at}
use Rattle.codec.specs.Steps.{and_then}
use Rattle.rules.specs.declared.Move.{Move}
use Rattle.rules.specs.declared.State.{State}
use Rattle.rulefile.specs.declared.card.Named.{Named}
use Rattle.rulefile.specs.Records.{NamedValue, LineValue, StateValue, named_value}

-- ---- what was read, as values

-- a name that was read
abbrev pub name_of : {E : Type 0} → Result (Bor (List ℕ)) E → Result (List ℕ) E
name_of (Ok n) = Ok n.now
name_of (Err e) = Err e

-- a card that was read
abbrev pub named_of : {T E : Type 0} → Result (Named T) E → Result (NamedValue T) E
named_of (Ok c) = Ok (named_value c)
named_of (Err e) = Err e

-- ---- names: a length of 0 to 16, and as many bytes from 33 to 126

abbrev pub is_name_byte : ℕ → Bool
is_name_byte byte = nat_le 33 byte && nat_le byte 126

-- the place behind as many name bytes
abbrev pub name_end : List ℕ → ℕ → ℕ → Result ℕ CardFault
name_end f p zero = Ok p
name_end f p (suc k) =
    cond (nat_le (length f) p) (Err (fault.Short (length f)))
    (cond (not (is_name_byte (slice_index f p))) (Err (fault.NameByte p))
    (name_end f (p + 1) k))

abbrev pub name_at : List ℕ → ℕ → Result (Read (List ℕ)) CardFault
name_at f p =
    and_then (λ e. e) (field_at f p 0 16) (λ n.
    and_then (λ e. e) (name_end f n.next n.value) (λ q.
    Ok (record { value = take (q - n.next) (drop n.next f); next = q })))

-- ---- the three kinds of cards

-- a cost of 1 to 1,000, a chance of 0 to 100, and a name
abbrev pub line_at : List ℕ → ℕ → Result (Read LineValue) CardFault
line_at f p =
    and_then (λ e. e) (field_at f p 1 1000) (λ cost.
    and_then (λ e. e) (field_at f cost.next 0 100) (λ chance.
    and_then (λ e. e) (name_at f chance.next) (λ name.
    Ok (record { value = record { value = record { cost = cost.value; chance = chance.value }; name = name.value }; next = name.next }))))

-- flags: 1 is a start state, 2 an accepting state, 3 both
abbrev pub state_of_flags : ℕ → State
state_of_flags flags = record { start = (flags % 2 == 1); accepting = nat_le 2 flags }

-- flags of 0 to 3, and a name
abbrev pub state_at : List ℕ → ℕ → Result (Read StateValue) CardFault
state_at f p =
    and_then (λ e. e) (field_at f p 0 3) (λ flags.
    and_then (λ e. e) (name_at f flags.next) (λ name.
    Ok (record { value = record { value = state_of_flags flags.value; name = name.value }; next = name.next })))

-- a from-state, a cell of 0 to 728 and a to-state, between states up to the highest
abbrev pub move_among : List ℕ → ℕ → ℕ → Result (Read Move) CardFault
move_among f p highest =
    and_then (λ e. e) (field_at f p 0 highest) (λ from.
    and_then (λ e. e) (field_at f from.next 0 728) (λ cell.
    and_then (λ e. e) (field_at f cell.next 0 highest) (λ to.
    Ok (record { value = record { from = from.value; cell = cell.value; to = to.value }; next = to.next }))))

-- a move between so many states
abbrev pub move_at : List ℕ → ℕ → ℕ → Result (Read Move) CardFault
move_at f p states = move_among f p (states - 1)
