-- The laws of change logs and wirings, as statements.
use Rattle.std.specs.Prelude.{◌≡◌, ℕ, ◌<◌, List, [], ◌∷◌, bit_xor, slice_index}
use Rattle.events.specs.Sets.{has}
use Rattle.sources.specs.ChangeLogs.{change_events}
use Rattle.sources.specs.Waiting.{AllEvents}
use Rattle.sources.specs.Wirings.{turned_by, rewired, rewired_all, straight, through, IsWiring}

-- ---- change logs

-- a pair turns over the lines in its flips, and no other
abbrev pub FlippedLines : Type 0
FlippedLines = (event flips line : ℕ) → has (bit_xor event flips) line ≡ turned_by (has event line) (has flips line)

-- two pairs that turn over the same lines cancel
abbrev pub FlipsCancel : Type 0
FlipsCancel = (event flips : ℕ) → bit_xor (bit_xor event flips) flips ≡ event

-- a worked log: twice 5, then once 5 with line 2 turned over
abbrev pub ChangesWorked : Type 0
ChangesWorked = change_events (2 ∷ 5 ∷ 1 ∷ 4 ∷ []) ≡ 5 ∷ 5 ∷ 1 ∷ []

-- ---- wirings

-- line i of an event through a wiring is the line below that entry i names, turned over if i is in the turned set; there are six lines
abbrev pub RewiredLines : Type 0
RewiredLines =
    (entries : List ℕ) (turned event : ℕ) → (rewired entries turned event < 64)
    × ((line : ℕ) → line < 6 → has (rewired entries turned event) line ≡ turned_by (has event (slice_index entries line)) (has turned line))

-- two turns of the same lines cancel
abbrev pub TurnsCancel : Type 0
TurnsCancel = (turned : ℕ) (events : List ℕ) → AllEvents events → rewired_all straight turned (rewired_all straight turned events) ≡ events

-- the straight wiring means the list below
abbrev pub StraightKeeps : Type 0
StraightKeeps = (events : List ℕ) → AllEvents events → rewired_all straight 0 events ≡ events

-- a wiring over a wiring is a wiring: through the entries of both, with the lower turned set seen through the upper wiring
abbrev pub WiringsCompose : Type 0
WiringsCompose =
    (upper lower : List ℕ) (above below : ℕ) → IsWiring upper above → IsWiring lower below
    → IsWiring (through upper lower) (rewired upper above below)
    × ((events : List ℕ) → rewired_all upper above (rewired_all lower below events) ≡ rewired_all (through upper lower) (rewired upper above below) events)
