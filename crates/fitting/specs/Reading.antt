-- What is read off a list of nodes: the tree at a place, and whether a walk down from there stays within the list. And the sets of states that a plan keeps.
use Rattle.std.specs.Prelude.{◌≡◌, ℕ, zero, suc, ◌^◌, ◌<◌, Bool, true, false, cond, ◌&&◌, List, [], ◌∷◌, length, get_or, ◌==◌, nat_lt, slice_index, slice_index_or}
use Rattle.events.specs.Sets.{set_of}
use Rattle.rules.specs.declared.Node.{Node}
use Rattle.rules.specs.declared.Node.TheVariants as node
use Rattle.rules.specs.declared.State.{State}
use Rattle.rules.specs.automata.Rules.{Rule}
use Rattle.rules.specs.trees.Trees.{Tree, leaf, fork, gives}
use Rattle.pruning.specs.Computed.{safe_states, lowest_safe, pruned_set}

-- ---- the tree at a place

-- the tree of a node, from the trees at other places
abbrev pub tree_from : (ℕ → Tree) → Node → Tree
tree_from at (node.Leaf set) = leaf set
tree_from at (node.Fork line on off) = fork line (at on) (at off)

-- the tree at a place, read n nodes deep; what lies deeper is read as the leaf of the empty set
unfoldable pub tree_at : ℕ → List Node → ℕ → Tree
tree_at zero nodes place = leaf 0
tree_at (suc n) nodes place = tree_from (tree_at n nodes) (slice_index_or nodes place (node.Leaf 0))

-- what a function gives for the numbers below n, in their order
unfoldable pub tabled : {A : Type 0} → ℕ → (ℕ → A) → List A
tabled zero f = []
tabled (suc n) f = f 0 ∷ tabled n (λ k. f (suc k))

-- the trees of the states, each read at its top: six forks and a leaf at most on a way down
unfoldable pub read_trees : Rule → List Node → List ℕ → List Tree
read_trees rule nodes tops = tabled (length rule.states) (λ q. tree_at 7 nodes (slice_index tops q))

-- ---- walks

-- a node is a leaf, or a fork on one of the six lines whose parts are sound
abbrev pub sound_node : (ℕ → Bool) → Node → Bool
sound_node at (node.Leaf set) = true
sound_node at (node.Fork line on off) = nat_lt line 6 && (at on && at off)

-- every walk down from a place stays within the list, and ends in a leaf after at most n nodes
unfoldable pub sound_at : ℕ → List Node → ℕ → Bool
sound_at zero nodes place = false
sound_at (suc n) nodes place = nat_lt place (length nodes) && sound_node (sound_at n nodes) (slice_index_or nodes place (node.Leaf 0))

-- each state's tree can be walked
abbrev pub Walkable : Rule → List Node → List ℕ → Type 0
Walkable rule nodes tops = (q : ℕ) → q < length rule.states → sound_at 7 nodes (slice_index tops q) ≡ true

-- each state's tree gives the state's pruned sets, for the 64 events
abbrev pub GivesPruned : Rule → List Node → List ℕ → Type 0
GivesPruned rule nodes tops = (q : ℕ) → q < length rule.states → tabled 64 (gives (tree_at 7 nodes (slice_index tops q))) ≡ tabled 64 (pruned_set rule q)

-- ---- sets of states

-- the start states
unfoldable pub start_states : List State → ℕ
start_states states = set_of (length states) (λ q. (get_or states q (record { start = false; accepting = false })).start)

-- the release state as a set, which is empty where no state is safe
unfoldable pub release_set : Rule → ℕ
release_set rule = cond (safe_states rule == 0) 0 (2 ^ lowest_safe rule)
