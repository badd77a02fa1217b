-- What a well-formed rule promises, and the elements of a list by place.
use Rattle.std.proofs.Common.{◌≡◌, ℕ, zero, suc, ◌<◌, ◌≤◌, true, ◌↔◌, List, [], ◌∷◌, length, get_or, sym, subst, inl, inr, le_of_suc-le-suc, not-suc-le-zero, arith}
use Rattle.std.specs.List.{AllByRecursion}
use Rattle.rules.specs.declared.State.{State}
use Rattle.rules.specs.declared.Move.{Move}
use Rattle.events.specs.Cells.{Covers}
use Rattle.rules.specs.automata.Rules.{Rule, Any, StateWith, line_of, LineInRange, MoveInRange, WellFormed}
use Rattle.rules.specs.automata.Runs.{Step, Run, Live, Dead}
use Rattle.rules.proofs.automata.RunLaws.{live_there}

-- ---- elements by place

pub all_at : {A : Type 0} (P : A → Type 0) (xs : List A) (i : ℕ) (d : A) → i < length xs → AllByRecursion P xs → P (get_or xs i d)
all_at P [] i d l h = absurd (not-suc-le-zero l)
all_at P (x ∷ xs) zero d l h = h.0
all_at P (x ∷ xs) (suc i) d l h = all_at P xs i d (le_of_suc-le-suc l) h.1

-- P holds of some element just when it holds at some place
pub any_at : {A : Type 0} (P : A → Type 0) (xs : List A) (d : A) → Any P xs ↔ ((k : ℕ) × (k < length xs) × P (get_or xs k d))
any_at {A = A} P xs d = (fwd xs, (λ (k, l, h). bwd xs k l h))
  where
    fwd : (xs : List A) → Any P xs → (k : ℕ) × (k < length xs) × P (get_or xs k d)
    fwd [] h = absurd h
    fwd (x ∷ xs) (inl h) = (0, omega arith, h)
    fwd (x ∷ xs) (inr h) = let (k, l, p) = fwd xs h in (suc k, omega arith, p)

    bwd : (xs : List A) (k : ℕ) → k < length xs → P (get_or xs k d) → Any P xs
    bwd [] k l h = absurd (not-suc-le-zero l)
    bwd (x ∷ xs) zero l h = inl h
    bwd (x ∷ xs) (suc k) l h = inr (bwd xs k (le_of_suc-le-suc l) h)

-- the state with the number q is the one at place q
pub state_at_lem : (P : State → Type 0) (xs : List State) (d : State) (q : ℕ) → StateWith P xs q ↔ ((q < length xs) × P (get_or xs q d))
state_at_lem P [] d q = ((λ h. absurd h), (λ (l, h). absurd (not-suc-le-zero l)))
state_at_lem P (x ∷ xs) d zero = ((λ h. (omega arith, h)), (λ (l, h). h))
state_at_lem P (x ∷ xs) d (suc q) =
    ((λ h. let (l, p) = (state_at_lem P xs d q).0 h in (omega arith, p)), (λ (l, h). (state_at_lem P xs d q).1 (le_of_suc-le-suc l, h)))

-- ---- a well-formed rule

pub line_in_range : (rule : Rule) → WellFormed rule → (i : ℕ) → i < 6 → LineInRange (line_of rule.lines i)
line_in_range rule well i l = all_at LineInRange rule.lines i (record { cost = 0; chance = 0 }) (omega (arith, well.six_lines)) well.lines_fit

step_in_range : (rule : Rule) (moves : List Move) (q e r : ℕ) → AllByRecursion (MoveInRange rule) moves → Any (λ m. (m.from ≡ q) × Covers m.cell e × (m.to ≡ r)) moves
    → (q < length rule.states) × (r < length rule.states)
step_in_range rule [] q e r ok h = absurd h
step_in_range rule (m ∷ moves) q e r ok (inl (p, c, p')) =
    (subst (λ (k : ℕ). k < length rule.states) p ok.0.from_low, subst (λ (k : ℕ). k < length rule.states) p' ok.0.to_low)
step_in_range rule (m ∷ moves) q e r ok (inr h) = step_in_range rule moves q e r ok.1 h

-- both ends of a step are states of the rule
pub step_below : (rule : Rule) → WellFormed rule → (q e r : ℕ) → Step rule q e r → (q < length rule.states) × (r < length rule.states)
step_below rule well q e r step = step_in_range rule rule.moves q e r well.moves_fit step

-- a live state is a state of the rule
pub live_below : (rule : Rule) → WellFormed rule → (q : ℕ) → Live rule q → q < length rule.states
live_below rule well q l = go l.u (live_there rule q l)
  where
    go : (u : List ℕ) → Run rule q u l.accepting → q < length rule.states
    go [] run = subst (λ (k : ℕ). k < length rule.states) (sym run) ((state_at_lem _ rule.states (record { start = true; accepting = true }) l.accepting).0 l.accepts).0
    go (e ∷ u) (p, step, run) = (step_below rule well q e p step).0

-- so it is below 32, and a number past the states is dead
pub live_small : (rule : Rule) → WellFormed rule → (q : ℕ) → Live rule q → q < 32
live_small rule well q l = omega (arith, live_below rule well q l, well.few_states)

pub past_dead : (rule : Rule) → WellFormed rule → (q : ℕ) → length rule.states ≤ q → Dead rule q
past_dead rule well q past l = let below = live_below rule well q l in let no_way : ⊥ = omega (arith, past, below) in no_way
