-- Runs of a rule, endings, and live and safe states.
use Rattle.std.specs.Prelude.{◌≡◌, ℕ, ◌^◌, ◌<◌, List, [], ◌∷◌, ◌++◌}
use Rattle.std.specs.List.{AllByRecursion}
use Rattle.events.specs.Sets.{◌∈◌}
use Rattle.events.specs.Cells.{Covers}
use Rattle.rules.specs.automata.Rules.{Rule, Any, Starts, Accepts, Event}

-- some move goes from q to r, on a cell that covers the event
abbrev pub Step : Rule → ℕ → ℕ → ℕ → Type 0
Step rule q e r = Any (λ m. (m.from ≡ q) × Covers m.cell e × (m.to ≡ r)) rule.moves

-- a run from q to r goes on by moves whose cells cover the events one after the other
abbrev pub Run : Rule → ℕ → List ℕ → ℕ → Type 0
Run rule q [] r = q ≡ r
Run rule q (e ∷ es) r = (p : ℕ) × Step rule q e p × Run rule p es r

-- the list has an element
abbrev pub NotEmpty : {A : Type 0} → List A → Type 0
NotEmpty [] = ⊥
NotEmpty (x ∷ xs) = Unit {0}

-- an ending of the events es, for runs that begin in certain states: two lists of events u and v, v not empty, such that some run over es, u and v
-- stands in the same accepting state before v and after v
pub record EndingFrom (rule : Rule) (Begins : ℕ → Type 0) (es : List ℕ) : Type 0 where
  pub u : List ℕ
  pub v : List ℕ
  pub u_events : AllByRecursion (Event rule) u
  pub v_events : AllByRecursion (Event rule) v
  pub v_turns : NotEmpty v
  pub start : ℕ
  pub accepting : ℕ
  pub begins : Begins start
  pub accepts : Accepts rule accepting
  pub there : Run rule start (es ++ u) accepting
  pub round : Run rule accepting v accepting

-- an ending of the events es: a run begins in a start state
abbrev pub Ending : Rule → List ℕ → Type 0
Ending rule es = EndingFrom rule (Starts rule) es

-- the events es have no ending: they can be carried on in no way that keeps the rule
abbrev pub NoEnding : Rule → List ℕ → Type 0
NoEnding rule es = Ending rule es → ⊥

-- a state is live if runs begun in it instead of a start state have an ending of the empty list
abbrev pub Live : Rule → ℕ → Type 0
Live rule q = EndingFrom rule (λ s. s ≡ q) []

-- a state that is not live is dead
abbrev pub Dead : Rule → ℕ → Type 0
Dead rule q = Live rule q → ⊥

-- a safe set holds only live states, and each member has, for each event, a covering move to a member
pub record SafeSet (rule : Rule) (set : ℕ) : Type 0 where
  pub small : set < 2 ^ 32
  pub live : (q : ℕ) → q ∈ set → Live rule q
  pub stays : (q e : ℕ) → q ∈ set → Event rule e → (r : ℕ) × Step rule q e r × (r ∈ set)

-- a state is safe if some safe set holds it
abbrev pub Safe : Rule → ℕ → Type 0
Safe rule q = (set : ℕ) × SafeSet rule set × (q ∈ set)

-- a run over the events from a start state ends in q
abbrev pub Reaches : Rule → List ℕ → ℕ → Type 0
Reaches rule es q = (s : ℕ) × Starts rule s × Run rule s es q

-- some run over the events ends in a live state
abbrev pub ReachesLive : Rule → List ℕ → Type 0
ReachesLive rule es = (s : ℕ) × Starts rule s × ((q : ℕ) × Run rule s es q × Live rule q)

-- some run over the events ends in a safe state
abbrev pub ReachesSafe : Rule → List ℕ → Type 0
ReachesSafe rule es = (s : ℕ) × Starts rule s × ((q : ℕ) × Run rule s es q × Safe rule q)
