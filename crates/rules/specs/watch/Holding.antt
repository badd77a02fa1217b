-- The set of states that a watch holds, what it polls, and what it shows from the held set alone.
use Rattle.std.specs.Prelude.{◌≡◌, ℕ, suc, ◌^◌, ◌<◌, ◌⊎◌, ◌↔◌, List, [], ◌∷◌, slice_index_or}
use Rattle.rules.specs.declared.Verdict.{Verdict}
use Rattle.rules.specs.declared.Verdict.TheVariants as verdict
use Rattle.events.specs.Sets.{◌∈◌, union_over}
use Rattle.rules.specs.automata.Rules.{Rule, Starts}
use Rattle.rules.specs.automata.Runs.{Safe}
use Rattle.rules.specs.automata.Pruning.{Release, StandsFor}
use Rattle.rules.specs.trees.Trees.{Tree, leaf, gives, polls, Serves}

-- ---- the trees of a rule

-- the tree of a state, and the leaf of the empty set past the trees
abbrev pub tree_of : List Tree → ℕ → Tree
tree_of trees q = slice_index_or trees q (leaf 0)

-- the union of what the trees of the held states give for an event
abbrev pub leads_to : List Tree → ℕ → ℕ → ℕ
leads_to trees held e = union_over 32 held (λ q. gives (tree_of trees q) e)

-- the union of the lines that they poll
abbrev pub polls_of : List Tree → ℕ → ℕ → ℕ
polls_of trees held e = union_over 32 held (λ q. polls (tree_of trees q) e)

-- whether a state is safe can be decided
abbrev pub SafeDecided : Rule → Type 0
SafeDecided rule = (q : ℕ) → Safe rule q ⊎ (Safe rule q → ⊥)

-- safety can be decided, and each state's tree serves it
pub record Sound (rule : Rule) (trees : List Tree) : Type 0 where
  pub decided : SafeDecided rule
  pub serves : (q : ℕ) → q < 32 → Serves rule q (tree_of trees q)

-- ---- the held set

-- where the release state is in a set, it alone is held
abbrev pub Settled : Rule → ℕ → ℕ → Type 0
Settled rule raw set =
    ((r : ℕ) × Release rule r × (r ∈ raw) × (set ≡ 2 ^ r)) ⊎ (((r : ℕ) → Release rule r → r ∈ raw → ⊥) × (set ≡ raw))

-- the release state as a set, which is empty where there is none
abbrev pub ReleaseSet : Rule → ℕ → Type 0
ReleaseSet rule set = ((r : ℕ) × Release rule r × (set ≡ 2 ^ r)) ⊎ (((r : ℕ) → Release rule r → ⊥) × (set ≡ 0))

-- the live start states, each safe one replaced by the release state
pub record StartSet (rule : Rule) (raw : ℕ) : Type 0 where
  pub small : raw < 2 ^ 32
  pub members : (t : ℕ) → (t ∈ raw) ↔ ((s : ℕ) × Starts rule s × StandsFor rule s t)

-- from a held set on, each event leads to the union of the leaves reached
abbrev pub HeldFrom : Rule → List Tree → ℕ → List ℕ → ℕ → Type 0
HeldFrom rule trees held [] set = held ≡ set
HeldFrom rule trees held (e ∷ es) set = (next : ℕ) × Settled rule (leads_to trees held e) next × HeldFrom rule trees next es set

-- the set held after the events es since the watch was last armed
abbrev pub Held : Rule → List Tree → List ℕ → ℕ → Type 0
Held rule trees es set =
    (raw : ℕ) × StartSet rule raw × ((first : ℕ) × Settled rule raw first × HeldFrom rule trees first es set)

-- the lines that a take of e polls after the events es: those on the ways down in the trees of the held states
abbrev pub Polled : Rule → List Tree → List ℕ → ℕ → ℕ → Type 0
Polled rule trees es e lines = (held : ℕ) × Held rule trees es held × (lines ≡ polls_of trees held e)

-- ---- the verdict by the held set

-- with nothing held it is BREACH at the count, with the release state held CLEAR since the count, and otherwise OPEN
abbrev pub Reads : Rule → ℕ → ℕ → Verdict → Type 0
Reads rule count set v =
    ((set ≡ 0) × (v ≡ verdict.BreachAt count))
    ⊎ ((((r : ℕ) × Release rule r × (r ∈ set)) × (v ≡ verdict.ClearSince count))
    ⊎ ((set ≡ 0 → ⊥) × ((r : ℕ) → Release rule r → r ∈ set → ⊥) × (v ≡ verdict.Open)))

-- the verdict after one event more: OPEN is read anew, and any other stays
abbrev pub Next : Rule → ℕ → ℕ → Verdict → Verdict → Type 0
Next rule count set verdict.Open w = Reads rule count set w
Next rule count set (verdict.BreachAt j) w = w ≡ verdict.BreachAt j
Next rule count set (verdict.ClearSince i) w = w ≡ verdict.ClearSince i

-- the held set and the verdict after more events, from those after `count` events
abbrev pub WatchesFrom : Rule → List Tree → ℕ → ℕ → Verdict → List ℕ → ℕ → Verdict → Type 0
WatchesFrom rule trees count held v [] set w = (held ≡ set) × (v ≡ w)
WatchesFrom rule trees count held v (e ∷ es) set w =
    (next : ℕ) × Settled rule (leads_to trees held e) next
    × ((shown : Verdict) × Next rule (suc count) next v shown × WatchesFrom rule trees (suc count) next shown es set w)

-- what a watch keeps: after the events es it holds the set and shows the verdict w
abbrev pub Watches : Rule → List Tree → List ℕ → ℕ → Verdict → Type 0
Watches rule trees es set w =
    (raw : ℕ) × StartSet rule raw
    × ((first : ℕ) × Settled rule raw first × ((v : Verdict) × Reads rule 0 first v × WatchesFrom rule trees 0 first v es set w))
