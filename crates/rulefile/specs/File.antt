-- What reading a rule file answers, by its bytes: the leftmost fault, or what the file holds.
use Rattle.std.specs.Prelude.{ℕ, zero, suc, ◌-◌, Bool, true, false, cond, ◌&&◌, ◌||◌, List, [], ◌∷◌, ◌++◌, length, drop, Some, None, Ok, Err, Option, Result, ◌==◌, nat_le, nat_lt}
use Rattle.codec.specs.Reading.{Read}
use Rattle.codec.specs.declared.fault.CardFault.{CardFault}
use Rattle.codec.specs.Field.{ranged_at}
use Rattle.codec.specs.Steps.{and_then}
use Rattle.rules.specs.declared.Move.{Move}
use Rattle.rulefile.specs.declared.fault.FileFault.{FileFault}
use Rattle.rulefile.specs.declared.fault.FileFault.TheVariants as fault
use Rattle.rulefile.specs.declared.fault.Refusal.{Refusal}
use Rattle.rulefile.specs.declared.fault.Refusal.TheVariants as refusal
use Rattle.rulefile.specs.declared.outline.Outline.{Outline}
use Rattle.rulefile.specs.declared.record.Counts.{Counts}
use Rattle.rulefile.specs.declared.record.Name.{Name}
use Rattle.rulefile.specs.declared.record.Record.{Record}
use Rattle.rulefile.specs.Records.{LineRecord, StateRecord, NamedValue}
use Rattle.rulefile.specs.Card.{line_at, state_at, move_among}

-- ---- one part of the file at a place

-- the version or a count, from low to high
abbrev pub count_at : List ℕ → ℕ → ℕ → ℕ → Result (Read ℕ) FileFault
count_at f p low high = ranged_at fault.Short fault.Number fault.Range f p low high

-- where the bytes end before a card, the fault is the file's
abbrev pub card_from : {A : Type 0} → List ℕ → ℕ → Result (Read A) FileFault → Result (Read A) FileFault
card_from f p r = cond (nat_le (length f) p) (Err (fault.Short (length f))) r

-- a name ends where its card does
abbrev pub name_before : ℕ → List ℕ → Name
name_before q name = record { at = q - length name; len = length name }

-- the record of a card
abbrev pub record_at : {T : Type 0} → (List ℕ → ℕ → Result (Read (NamedValue T)) CardFault) → List ℕ → ℕ → Result (Read (Record T)) FileFault
record_at card f p = card_from f p (and_then fault.Card (card f p) (λ c. Ok (record {
  value = record { value = c.value.value; name = name_before c.next c.value.name };
  next = c.next;
})))

abbrev pub line_record_at : List ℕ → ℕ → Result (Read LineRecord) FileFault
line_record_at f p = record_at line_at f p

abbrev pub state_record_at : List ℕ → ℕ → Result (Read StateRecord) FileFault
state_record_at f p = record_at state_at f p

abbrev pub move_record_among : List ℕ → ℕ → ℕ → Result (Read Move) FileFault
move_record_among f p highest = card_from f p (and_then fault.Card (move_among f p highest) (λ c. Ok c))

-- a move stands above another by from-state, then cell, then to-state
abbrev pub before : Move → Move → Bool
before a b =
    nat_lt a.from b.from || (a.from == b.from && (nat_lt a.cell b.cell || (a.cell == b.cell && nat_lt a.to b.to)))

abbrev pub follows : Option Move → Move → Bool
follows None b = true
follows (Some a) b = before a b

-- a move that stands above the last one; that is looked at once the whole move is read
abbrev pub next_move_among : List ℕ → ℕ → Option Move → ℕ → Result (Read Move) FileFault
next_move_among f highest last p =
    and_then (λ e. e) (move_record_among f p highest) (λ m. cond (follows last m.value) (Ok m) (Err (fault.Order p)))

-- the same for so many states
abbrev pub next_move_at : List ℕ → ℕ → Option Move → ℕ → Result (Read Move) FileFault
next_move_at f n last p = next_move_among f (n - 1) last p

-- ---- parts in a row

-- so many in a row; each may look at what is kept of those before it
unfoldable pub row_from : {A S : Type 0} → (S → A → S) → (S → ℕ → Result (Read A) FileFault) → S → ℕ → ℕ → Result (Read (List A)) FileFault
row_from kept one s p zero = Ok (record { value = []; next = p })
row_from kept one s p (suc k) =
    and_then (λ e. e) (one s p) (λ a.
    and_then (λ e. e) (row_from kept one (kept s a.value) a.next k) (λ r.
    Ok (record { value = a.value ∷ r.value; next = r.next })))

-- so many cards in a row
abbrev pub cards_from : {A : Type 0} → (ℕ → Result (Read A) FileFault) → ℕ → ℕ → Result (Read (List A)) FileFault
cards_from one p k = row_from {S = Unit {0}} (λ _ _. tt) (λ _. one) tt p k

abbrev pub line_cards_at : List ℕ → ℕ → Result (Read (List LineRecord)) FileFault
line_cards_at f p = cards_from (line_record_at f) p 6

abbrev pub state_cards_at : List ℕ → ℕ → ℕ → Result (Read (List StateRecord)) FileFault
state_cards_at f p n = cards_from (state_record_at f) p n

abbrev pub move_cards_at : List ℕ → ℕ → ℕ → ℕ → Result (Read (List Move)) FileFault
move_cards_at f n p k = row_from (λ _ m. Some m) (next_move_at f n) None p k

-- a result by a function of what was read
abbrev pub read_by : {A B : Type 0} → (A → B) → Result (Read A) FileFault → Result (Read B) FileFault
read_by g r = and_then (λ e. e) r (λ a. Ok (record { value = g a.value; next = a.next }))

-- a result with another value
abbrev pub giving : {A B E : Type 0} → B → Result A E → Result B E
giving b (Ok a) = Ok b
giving b (Err e) = Err e

-- the rows that were read
abbrev pub rows_of : {A : Type 0} → Result (Read (List A)) FileFault → List A
rows_of (Ok r) = r.value
rows_of (Err e) = []

-- ---- the whole file

-- whether a start state is among them
abbrev pub any_start : List StateRecord → Bool
any_start [] = false
any_start (s ∷ ss) = s.value.start || any_start ss

-- what a file holds, and where its states and moves begin
pub record Contents : Type 0 where
  pub lines : List LineRecord
  pub states_start : ℕ
  pub states : List StateRecord
  pub moves_start : ℕ
  pub moves : List Move

-- the leftmost fault, or what the file holds: the version, six line cards, the state cards with their count before them, the moves with theirs, and
-- nothing more; that no state is a start state is found after the last state card
unfoldable pub file_of : List ℕ → Result Contents FileFault
file_of f =
    and_then (λ e. e) (count_at f 0 1 1) (λ version.
    and_then (λ e. e) (line_cards_at f version.next) (λ lines.
    and_then (λ e. e) (count_at f lines.next 1 32) (λ n.
    and_then (λ e. e) (state_cards_at f n.next n.value) (λ states.
    cond (any_start states.value)
    (and_then (λ e. e) (count_at f states.next 0 1024) (λ m.
    and_then (λ e. e) (move_cards_at f n.value m.next m.value) (λ moves.
    cond (nat_lt moves.next (length f)) (Err (fault.Trailing moves.next))
    (Ok (record { lines = lines.value; states_start = n.next; states = states.value; moves_start = m.next; moves = moves.value })))))
    (Err (fault.NoStart lines.next))))))

-- where the parts of a file lie
abbrev pub outline_of : Contents → Outline
outline_of c = record { lines = c.lines; states = length c.states; states_at = c.states_start; moves = length c.moves; moves_at = c.moves_start }

abbrev pub outlined : Result Contents FileFault → Result Outline FileFault
outlined r = and_then (λ e. e) r (λ c. Ok (outline_of c))

-- ---- the check

-- lists that do not have room for the records of every good file are refused: 32 states, 1,024 moves
abbrev pub room : ℕ → ℕ → Result (Unit {0}) Refusal
room states moves = cond (nat_lt states 32) (Err refusal.FewStateRecords) (cond (nat_lt moves 1024) (Err refusal.FewMoveRecords) (Ok tt))

-- the room is looked at before the file
abbrev pub checked : List ℕ → ℕ → ℕ → Result Contents Refusal
checked f states moves = and_then (λ e. e) (room states moves) (λ _. and_then refusal.File (file_of f) (λ c. Ok c))

-- how many states and moves it found
abbrev pub counted : Result Contents Refusal → Result Counts Refusal
counted r = and_then (λ e. e) r (λ c. Ok (record { states = length c.states; moves = length c.moves }))

-- a list with rows written over its front; the rest is as it was
abbrev pub overlaid : {A : Type 0} → List A → List A → List A
overlaid rows old = rows ++ drop (length rows) old

-- what is there of a file: nothing at a refusal
abbrev pub rows_of_lines : {F : Type 0} → Result Contents F → List LineRecord
rows_of_lines (Ok c) = c.lines
rows_of_lines (Err e) = []

abbrev pub rows_of_states : {F : Type 0} → Result Contents F → List StateRecord
rows_of_states (Ok c) = c.states
rows_of_states (Err e) = []

abbrev pub rows_of_moves : {F : Type 0} → Result Contents F → List Move
rows_of_moves (Ok c) = c.moves
rows_of_moves (Err e) = []
