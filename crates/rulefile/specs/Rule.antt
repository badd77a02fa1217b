-- The format of a rule file, as the bytes of a rule; and that a file is taken exactly when it follows it.
use Rattle.std.specs.Prelude.{◌≡◌, ℕ, ◌+◌, ◌<◌, ◌≤◌, true, cond, ◌⊎◌, List, [], ◌∷◌, ◌++◌, map, length, take, drop, Ok}
use Rattle.std.specs.List.{flat_map, AllByRecursion}
use Rattle.codec.specs.Number.{encode, Octets}
use Rattle.rules.specs.declared.Move.{Move}
use Rattle.rules.specs.declared.State.{State}
use Rattle.rulefile.specs.declared.record.Counts.{Counts}
use Rattle.rulefile.specs.declared.record.Name.{Name}
use Rattle.rulefile.specs.declared.record.Record.{Record}
use Rattle.rulefile.specs.Records.{LineRecord, StateRecord, NamedValue, LineValue, StateValue}
use Rattle.rulefile.specs.File.{Contents, file_of}

-- a rule as its file has it: lines and states with their names, and moves
pub record Rule : Type 0 where
  pub lines : List LineValue
  pub states : List StateValue
  pub moves : List Move

-- ---- the bytes of a rule

-- a name: its length, and its bytes
abbrev pub encode_name : List ℕ → List ℕ
encode_name name = encode (length name) ++ name

-- a line card: cost, chance, name
abbrev pub encode_line : LineValue → List ℕ
encode_line l = encode l.value.cost ++ (encode l.value.chance ++ encode_name l.name)

-- 1 is a start state, 2 an accepting state, 3 both
abbrev pub flags_of : State → ℕ
flags_of s = cond s.start 1 0 + cond s.accepting 2 0

-- a state card: flags, name
abbrev pub encode_state : StateValue → List ℕ
encode_state s = encode (flags_of s.value) ++ encode_name s.name

-- a move: from-state, cell, to-state
abbrev pub encode_move : Move → List ℕ
encode_move m = encode m.from ++ (encode m.cell ++ encode m.to)

-- the version, which is 1; the line cards; the count of states and the state cards; the count of moves and the moves
unfoldable pub encode_rule : Rule → List ℕ
encode_rule r =
    encode 1 ++ (flat_map encode_line r.lines
    ++ (encode (length r.states) ++ (flat_map encode_state r.states
    ++ (encode (length r.moves) ++ flat_map encode_move r.moves))))

-- ---- the ranges

-- at most 16 bytes, each from 33 to 126
pub record GoodName (name : List ℕ) : Type 0 where
  pub short : length name ≤ 16
  pub printed : AllByRecursion (λ b. (33 ≤ b) × (b ≤ 126)) name

-- a cost of 1 to 1,000 and a chance of 0 to 100
pub record GoodLine (l : LineValue) : Type 0 where
  pub costs : (1 ≤ l.value.cost) × (l.value.cost ≤ 1000)
  pub chances : l.value.chance ≤ 100
  pub named : GoodName l.name

abbrev pub GoodState : StateValue → Type 0
GoodState s = GoodName s.name

-- between states below n, on a cell of 0 to 728
pub record GoodMove (n : ℕ) (m : Move) : Type 0 where
  pub leaves : m.from < n
  pub covers : m.cell ≤ 728
  pub enters : m.to < n

-- by from-state, then cell, then to-state
abbrev pub Before : Move → Move → Type 0
Before a b = (a.from < b.from) ⊎ ((a.from ≡ b.from) × ((a.cell < b.cell) ⊎ ((a.cell ≡ b.cell) × (a.to < b.to))))

-- each stands before the next
abbrev pub Ascending : List Move → Type 0
Ascending [] = Unit {0}
Ascending (a ∷ []) = Unit {0}
Ascending (a ∷ b ∷ ms) = Before a b × Ascending (b ∷ ms)

-- one of them is a start state
abbrev pub HasStart : List StateValue → Type 0
HasStart [] = ⊥
HasStart (s ∷ ss) = (s.value.start ≡ true) ⊎ HasStart ss

-- six lines, 1 to 32 states with a start state among them, at most 1,024 moves, strictly ascending, all in their ranges
pub record GoodRule (r : Rule) : Type 0 where
  pub six : length r.lines ≡ 6
  pub lines_good : AllByRecursion GoodLine r.lines
  pub some : 1 ≤ length r.states
  pub few : length r.states ≤ 32
  pub states_good : AllByRecursion GoodState r.states
  pub start : HasStart r.states
  pub few_moves : length r.moves ≤ 1024
  pub moves_good : AllByRecursion (GoodMove (length r.states)) r.moves
  pub ascending : Ascending r.moves

-- ---- records and the rule that they stand for

-- the part of the file that a name is
abbrev pub name_in : List ℕ → Name → List ℕ
name_in f name = take name.len (drop name.at f)

-- the value that a record stands for, with its name
abbrev pub named_in : {T : Type 0} → List ℕ → Record T → NamedValue T
named_in f r = record { value = r.value; name = name_in f r.name }

-- the rule that records stand for, with their names in the file
abbrev pub rule_in : List ℕ → List LineRecord → List StateRecord → List Move → Rule
rule_in f lines states moves = record { lines = map (named_in f) lines; states = map (named_in f) states; moves = moves }

-- what a file holds as a rule
abbrev pub rule_of : List ℕ → Contents → Rule
rule_of f c = rule_in f c.lines c.states c.moves

-- ---- exactness

-- a file is taken exactly when it is the bytes of a rule in range, which is then the rule that it is read as
abbrev pub FileExact : Type 0
FileExact = (f : List ℕ) → Octets f → (r : Rule)
    → ((c : Contents) → file_of f ≡ Ok c → rule_of f c ≡ r → GoodRule r × (f ≡ encode_rule r))
    × (GoodRule r → f ≡ encode_rule r → (c : Contents) × (file_of f ≡ Ok c) × (rule_of f c ≡ r))

-- the file is the bytes of a rule in range, and the lists begin with records that stand for its states and its moves
pub record Holds (f : List ℕ) (states : List StateRecord) (moves : List Move) (r : Rule) : Type 0 where
  pub good : GoodRule r
  pub bytes : f ≡ encode_rule r
  pub states_are : map (named_in f) (take (length r.states) states) ≡ r.states
  pub moves_are : take (length r.moves) moves ≡ r.moves

-- the lists hold a rule of so many states and moves
pub record Recorded (f : List ℕ) (states : List StateRecord) (moves : List Move) (n : Counts) : Type 0 where
  pub rule : Rule
  pub holds : Holds f states moves rule
  pub states_counted : n.states ≡ length rule.states
  pub moves_counted : n.moves ≡ length rule.moves

-- the lists have room, and the file is the bytes of a rule in range
pub record Readable (f : List ℕ) (stateRoom moveRoom : ℕ) : Type 0 where
  pub state_room : 32 ≤ stateRoom
  pub move_room : 1024 ≤ moveRoom
  pub rule : Rule
  pub good : GoodRule rule
  pub bytes : f ≡ encode_rule rule
