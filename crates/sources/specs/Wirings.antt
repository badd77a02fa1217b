-- What a wiring is: where each of the six lines comes from, and which are turned over.
use Rattle.std.specs.Prelude.{◌≡◌, ℕ, ◌<◌, Bool, true, false, cond, ◌&&◌, List, [], ◌∷◌, map, length, Ok, Err, Result, nat_lt, slice_index}
use Rattle.std.specs.List.{list_all}
use Rattle.events.specs.Sets.{has, set_of}
use Rattle.sources.specs.declared.wiring.WiringRefusal.{WiringRefusal}
use Rattle.sources.specs.declared.wiring.WiringRefusal.TheVariants.{OutOfRange}

-- the number that each refusal is told by
abbrev pub wiring_number : WiringRefusal → ℕ
wiring_number OutOfRange = 53

-- a line, turned over where the second is true
abbrev pub turned_by : Bool → Bool → Bool
turned_by true true = false
turned_by true false = true
turned_by false turn = turn

-- an event through a wiring: line i is the line below that entry i names, turned over if i is in the turned set
unfoldable pub rewired : List ℕ → ℕ → ℕ → ℕ
rewired entries turned event = set_of 6 (λ line. turned_by (has event (slice_index entries line)) (has turned line))

-- the entries that leave each line where it is
abbrev pub straight : List ℕ
straight = 0 ∷ 1 ∷ 2 ∷ 3 ∷ 4 ∷ 5 ∷ []

-- the entries of an upper wiring over a lower one: the lower entry that each upper entry names
abbrev pub through : List ℕ → List ℕ → List ℕ
through upper lower = map (λ entry. slice_index lower entry) upper

-- six entries, each of which names a line, and a turned set of lines alone
pub record IsWiring (entries : List ℕ) (turned : ℕ) : Type 0 where
  pub six : length entries ≡ 6
  pub named : (k : ℕ) → k < 6 → slice_index entries k < 6
  pub lines : turned < 64

-- whether each entry names a line
abbrev pub all_lines : List ℕ → Bool
all_lines entries = list_all (λ entry. nat_lt entry 6) entries

-- the same of six entries, as a test
abbrev pub wiring_fits : List ℕ → ℕ → Bool
wiring_fits entries turned = all_lines entries && nat_lt turned 64

-- a wiring is taken where it fits
abbrev pub checked_wiring : List ℕ → ℕ → Result (Unit {0}) WiringRefusal
checked_wiring entries turned = cond (wiring_fits entries turned) (Ok tt) (Err OutOfRange)

-- each event of a list through a wiring
abbrev pub rewired_all : List ℕ → ℕ → List ℕ → List ℕ
rewired_all entries turned events = map (rewired entries turned) events

-- what a source means through a wiring: the list below, event by event; the list below as it is where the wiring is refused
abbrev pub wired_events : List ℕ → ℕ → List ℕ → List ℕ
wired_events entries turned events = cond (wiring_fits entries turned) (rewired_all entries turned events) events
