-- Polling trees: what they give for an event, what they poll, and whether they serve a state.
use Rattle.std.specs.Prelude.{◌≡◌, ℕ, ◌^◌, ◌<◌, cond, List, bit_or}
use Rattle.events.specs.Sets.{has, ◌∈◌}
use Rattle.rules.specs.automata.Rules.{Rule}
use Rattle.rules.specs.automata.Pruning.{IsPrunedSet, Guarded, selected}

-- a leaf holds a set of states; a fork polls a line and has a part for on and a part for off
pub data Tree : Type 0 where
  leaf : (set : ℕ) → Tree
  fork : (line : ℕ) → (on : Tree) → (off : Tree) → Tree

-- each fork leads an event to its on or off part by its line, and the set in the leaf reached is what the tree gives
abbrev pub gives : Tree → ℕ → ℕ
gives (leaf set) e = set
gives (fork line on off) e = cond (has e line) (gives on e) (gives off e)

-- the lines polled on the way down that the event takes
abbrev pub polls : Tree → ℕ → ℕ
polls (leaf set) e = 0
polls (fork line on off) e = bit_or (2 ^ line) (cond (has e line) (polls on e) (polls off e))

-- the tree polls lines below 6, no line twice on a way down, and none that was polled above
abbrev pub PollsOnce : ℕ → Tree → Type 0
PollsOnce above (leaf set) = Unit {0}
PollsOnce above (fork line on off) =
    (line < 6) × (line ∈ above → ⊥) × PollsOnce (bit_or (2 ^ line) above) on × PollsOnce (bit_or (2 ^ line) above) off

-- a tree serves a state if it gives the pruned set for each of the 64 events
abbrev pub Serves : Rule → ℕ → Tree → Type 0
Serves rule q t = (e : ℕ) → e < 64 → IsPrunedSet rule q e (gives t e)

-- a tree implements a list of guarded states if it gives what each of the 64 events selects
abbrev pub Implements : Tree → List Guarded → Type 0
Implements t gs = (e : ℕ) → e < 64 → gives t e ≡ selected gs e
