-- How the live and the safe states, the release state and the pruned sets are computed from the moves. That they are what their names say is
-- promised by the calls, in the words of the crate `rules`.
use Rattle.std.specs.Prelude.{ℕ, zero, suc, ◌-◌, ◌^◌, ◌<◌, Bool, false, not, ◌&&◌, ◌||◌, List, length, ◌==◌, bit_and, slice_index, slice_index_or}
use Rattle.std.specs.Int.Count.{count_trailing_zeros}
use Rattle.std.specs.List.{AllByRecursion, list_any}
use Rattle.events.specs.Sets.{has, set_of}
use Rattle.events.specs.Cells.{covers}
use Rattle.rules.specs.declared.Move.{Move}
use Rattle.rules.specs.declared.State.{State}
use Rattle.rules.specs.automata.Rules.{Rule}
use Rattle.rules.specs.automata.Pruning.{selected, kept_moves, pruned_moves}

-- a move between states below 32, on a cell
pub record InRange (m : Move) : Type 0 where
  pub leaves : m.from < 32
  pub on_cell : m.cell < 729
  pub enters : m.to < 32

-- each move is in range
abbrev pub Ranged : List Move → Type 0
Ranged moves = AllByRecursion InRange moves

-- ---- sets of states, in rounds

-- whether two sets have a common member
abbrev pub meets : ℕ → ℕ → Bool
meets a b = not (bit_and a b == 0)

-- the lowest member of a set of states, or 32 where it has none
abbrev pub lowest_member : ℕ → ℕ
lowest_member set = count_trailing_zeros 32 set

-- a set after n rounds of a step
abbrev pub rounds : ℕ → (ℕ → ℕ) → ℕ → ℕ
rounds zero step set = set
rounds (suc n) step set = step (rounds n step set)

-- a set of states that only grows, or only shrinks, has settled after 32 rounds
unfoldable pub settled : (ℕ → ℕ) → ℕ → ℕ
settled step set = rounds 32 step set

-- ---- live states

-- the masks of an array, by place
abbrev pub entry : List ℕ → ℕ → ℕ
entry masks q = slice_index masks q

-- whether some move goes from q to r
abbrev pub leads : List Move → ℕ → ℕ → Bool
leads moves q r = list_any (λ m. m.from == q && m.to == r) moves

-- the states that the moves of q lead to
unfoldable pub targets : List Move → ℕ → ℕ
targets moves q = set_of 32 (leads moves q)

-- the accepting states
unfoldable pub accepting : List State → ℕ
accepting states = set_of (length states) (λ q. (slice_index_or states q (record { start = false; accepting = false })).accepting)

-- the set with every state that has a target in it
unfoldable pub widened : (ℕ → ℕ) → ℕ → ℕ
widened edges set = set_of 32 (λ q. has set q || meets (edges q) set)

-- the states from which moves, or none, lead into the set
unfoldable pub reaching : (ℕ → ℕ) → ℕ → ℕ
reaching edges set = settled (widened edges) set

-- the accepting states that moves lead back to
unfoldable pub turning : (ℕ → ℕ) → ℕ → ℕ
turning edges accepts = set_of 32 (λ q. has accepts q && meets (edges q) (reaching edges (2 ^ q)))

-- the states that lead to those
abbrev pub live_in : (ℕ → ℕ) → ℕ → ℕ
live_in edges accepts = reaching edges (turning edges accepts)

-- the live states of a rule
unfoldable pub live_states : Rule → ℕ
live_states rule = live_in (targets rule.moves) (accepting rule.states)

-- ---- safe states

-- whether some move from q into the set covers the event
abbrev pub covered : List Move → ℕ → ℕ → ℕ → Bool
covered moves q set e = list_any (λ m. (m.from == q && has set m.to) && covers m.cell e) moves

-- the events that moves from q into the set cover
unfoldable pub covered_into : List Move → ℕ → ℕ → ℕ
covered_into moves q set = set_of 64 (covered moves q set)

-- the members that can go on inside the set on every event
unfoldable pub kept : List Move → ℕ → ℕ
kept moves set = set_of 32 (λ q. has set q && (covered_into moves q set) == 2 ^ 64 - 1)

-- what is left of the live states
unfoldable pub safe_in : List Move → ℕ → ℕ
safe_in moves live = settled (kept moves) live

-- the safe states of a rule
abbrev pub safe_states : Rule → ℕ
safe_states rule = safe_in rule.moves (live_states rule)

-- ---- pruned sets

-- the lowest safe state, or 32 where there is none
abbrev pub lowest_safe : Rule → ℕ
lowest_safe rule = lowest_member (safe_states rule)

-- the states that an event selects from the moves of q that are kept
unfoldable pub selected_kept : List Move → ℕ → ℕ → ℕ → ℕ → ℕ → ℕ
selected_kept moves live safe release q e = selected (kept_moves live safe release q moves) e

-- the pruned set of a state at an event
unfoldable pub pruned_set : Rule → ℕ → ℕ → ℕ
pruned_set rule q e = selected (pruned_moves rule (live_states rule) (safe_states rule) (lowest_safe rule) q) e
