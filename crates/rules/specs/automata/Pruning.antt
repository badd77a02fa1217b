-- Pruning: dead targets go, and every safe state becomes the release state. First as a set of states for each event, then as a list of guarded states.
use Rattle.std.specs.Prelude.{◌≡◌, ℕ, ◌^◌, ◌<◌, cond, ◌&&◌, ◌⊎◌, ◌↔◌, List, [], ◌∷◌, ◌==◌, bit_or}
use Rattle.rules.specs.declared.Move.{Move}
use Rattle.events.specs.Sets.{has, ◌∈◌}
use Rattle.events.specs.Cells.{covers}
use Rattle.rules.specs.automata.Rules.{Rule}
use Rattle.rules.specs.automata.Runs.{Step, Live, Safe}

-- the release state is the lowest-numbered safe state
abbrev pub Release : Rule → ℕ → Type 0
Release rule q = Safe rule q × ((p : ℕ) → p < q → Safe rule p → ⊥)

-- a live state stands for itself, or for the release state if it is safe; a dead one stands for nothing
abbrev pub StandsFor : Rule → ℕ → ℕ → Type 0
StandsFor rule q t = Live rule q × (((Safe rule q → ⊥) × (t ≡ q)) ⊎ (Safe rule q × Release rule t))

-- t is in the pruned set of q at the event e: from a live state that is not safe, a move that covers e has a target that stands for t;
-- the release state leads to itself alone, and every other state to nothing
abbrev pub Pruned : Rule → ℕ → ℕ → ℕ → Type 0
Pruned rule q e t =
    (Live rule q × (Safe rule q → ⊥) × ((r : ℕ) × Step rule q e r × StandsFor rule r t)) ⊎ (Release rule q × (t ≡ q))

-- the pruned set as a number
pub record IsPrunedSet (rule : Rule) (q e set : ℕ) : Type 0 where
  pub small : set < 2 ^ 32
  pub members : (t : ℕ) → (t ∈ set) ↔ Pruned rule q e t

-- the pruned sets of a state, by event
abbrev pub Wants : Rule → ℕ → (ℕ → ℕ) → Type 0
Wants rule q wants = (e : ℕ) → e < 64 → IsPrunedSet rule q e (wants e)

-- ---- multi-transitions: the moves of one state as a list of states, each guarded by a cell

-- a state, and the cell that guards it
pub record Guarded : Type 0 where
  pub cell : ℕ
  pub state : ℕ

-- an event selects the states whose cell covers it
abbrev pub selected : List Guarded → ℕ → ℕ
selected [] e = 0
selected (g ∷ gs) e = cond (covers g.cell e) (bit_or (2 ^ g.state) (selected gs e)) (selected gs e)

-- which states are live and which are safe, as sets, and the release state where there is one
pub record Kinds (rule : Rule) (live safe release : ℕ) : Type 0 where
  pub small : live < 2 ^ 32
  pub live_is : (q : ℕ) → (q ∈ live) ↔ Live rule q
  pub safe_is : (q : ℕ) → (q ∈ safe) ↔ Safe rule q
  pub release_is : (q : ℕ) → Safe rule q → Release rule release

-- the moves of q to live states, each safe target replaced by the release state
abbrev pub kept_moves : ℕ → ℕ → ℕ → ℕ → List Move → List Guarded
kept_moves live safe release q [] = []
kept_moves live safe release q (m ∷ moves) =
    cond (m.from == q && has live m.to)
    (record { cell = m.cell; state = cond (has safe m.to) release m.to } ∷ kept_moves live safe release q moves)
    (kept_moves live safe release q moves)

-- the pruned moves of a state: those kept from a live state that is not safe, the release state on every event from itself, and none from any other
abbrev pub pruned_moves : Rule → ℕ → ℕ → ℕ → ℕ → List Guarded
pruned_moves rule live safe release q =
    cond (has safe q)
    (cond (q == release) (record { cell = 0; state = q } ∷ []) [])
    (cond (has live q) (kept_moves live safe release q rule.moves) [])
