-- What a take answers: each refusal, and the take, from the states that were reached and the lines that were polled.
use Rattle.std.proofs.Common.{◌≡◌, ℕ, ◌+◌, ◌<◌, ◌≤◌, true, false, ◌⊎◌, List, [], ◌∷◌, length, sym, refl, ap, ◌∙◌, subst, ap₂, subst₂, inl, inr, le_antisymm, lit≤}
use Rattle.std.specs.Prelude.{Err}
use Rattle.events.specs.Sets.{has}
use Rattle.rules.specs.declared.Snapshot.{Snapshot}
use Rattle.rules.specs.declared.Verdict.{Verdict}
use Rattle.rules.specs.declared.Verdict.TheVariants as verdict
use Rattle.rules.specs.declared.Call.TheVariants as call
use Rattle.rules.specs.declared.Refusal.TheVariants as refusal
use Rattle.rules.specs.watch.Verdicts.{IsBreach}
use Rattle.rules.specs.watch.Holding.{leads_to, polls_of}
use Rattle.rules.specs.watch.Calls.{limit, take_gives}
use Rattle.rules.proofs.watch.CalledLaws.{called_take_breached, called_take_full, called_take_nothing_waits, called_take_taken}
use Rattle.rules.proofs.watch.VerdictLaws.{is_breach}
use Rattle.sources.specs.Waiting.{AllEvents, any_waiting, later_of}
use Rattle.fitting.specs.declared.plan.Plan.{Plan}
use Rattle.fitting.specs.Plans.{plan_rule, plan_trees}
use Rattle.fitting.proofs.PlanLaws.{plan_sound}
use Rattle.watch.specs.Polling.{head_of}
use Rattle.watch.specs.Steps.{settled_by, next_by, stepped_by}
use Rattle.watch.specs.Watching.{CalledOn}
use Rattle.watch.proofs.StepLaws.{settled_by_lem, next_by_lem, plan_release, led_within}

-- no breach stands where the verdict is OPEN or CLEAR
pub lasts : (v : Verdict) → (v ≡ verdict.Open) ⊎ ((i : ℕ) × (v ≡ verdict.ClearSince i)) → IsBreach v → ⊥
lasts v (inl e) (j, b) = is_breach verdict.Open j (sym e ∙ b)
lasts v (inr (i, e)) (j, b) = is_breach (verdict.ClearSince i) j (sym e ∙ b)

-- the event that a take polls is below 64
pub head_low : (coming : List ℕ) → AllEvents coming → head_of coming < 64
head_low [] h = lit≤ tt
head_low (e ∷ later) h = h.0

-- a list where nothing waits
pub none_waits : (coming : List ℕ) → false ≡ any_waiting coming → coming ≡ []
none_waits [] h = refl
none_waits (e ∷ later) h = absurd cc

-- ---- the three refusals, and the take

module _ (plan : Plan) (s : Snapshot) (coming : List ℕ) where
  -- a breach stands
  pub take_breached : (j : ℕ) → s.verdict ≡ verdict.BreachAt j → CalledOn plan call.Take s coming (Err refusal.Breached) s coming
  unfolding CalledOn
  take_breached j e = called_take_breached (plan_rule plan) (plan_trees plan) (plan_sound plan) s coming (j, e)

  module _ (unbroken : (s.verdict ≡ verdict.Open) ⊎ ((i : ℕ) × (s.verdict ≡ verdict.ClearSince i))) where
    -- the limit is reached
    pub take_full : s.count ≤ limit → limit ≤ s.count → CalledOn plan call.Take s coming (Err refusal.Full) s coming
    unfolding CalledOn
    take_full most least = called_take_full (plan_rule plan) (plan_trees plan) (plan_sound plan) s coming (lasts s.verdict unbroken) (le_antisymm most least)

    -- no event waits
    pub take_nothing_waits : s.count < limit → false ≡ any_waiting coming → CalledOn plan call.Take s coming (Err refusal.NothingWaits) s coming
    unfolding CalledOn
    take_nothing_waits room none = subst (λ (l : List ℕ). CalledOn plan call.Take s l (Err refusal.NothingWaits) s l) (sym (none_waits coming none))
        (called_take_nothing_waits (plan_rule plan) (plan_trees plan) (plan_sound plan) s (lasts s.verdict unbroken) room)

    -- from the union of the leaves reached and the lines polled on the way
    pub take_taken : (left : List ℕ) (raw lines : ℕ) (after : Snapshot) → s.count < limit → true ≡ any_waiting coming
        → raw ≡ leads_to (plan_trees plan) s.held (head_of coming) → lines ≡ polls_of (plan_trees plan) s.held (head_of coming)
        → after ≡ stepped_by plan.sets.release raw (s.count + 1) s → left ≡ later_of coming → CalledOn plan call.Take s coming (take_gives after.verdict lines) after left
    unfolding CalledOn
    take_taken left raw lines after room waits raw-is lines-is after_is left_is = go coming waits raw-is lines-is left_is
      where
        go : (coming : List ℕ) → true ≡ any_waiting coming → raw ≡ leads_to (plan_trees plan) s.held (head_of coming) → lines ≡ polls_of (plan_trees plan) s.held (head_of coming)
            → left ≡ later_of coming → CalledOn plan call.Take s coming (take_gives after.verdict lines) after left
        go [] waits raw-is lines-is left_is = absurd cc
        go (e ∷ later) waits raw-is lines-is left_is =
            subst₂ (λ (t : Snapshot) (l : List ℕ). CalledOn plan call.Take s (e ∷ later) (take_gives t.verdict lines) t l) (sym after_is) (sym left_is)
            (called_take_taken (plan_rule plan) (plan_trees plan) (plan_sound plan) s e later raw lines (settled_by plan.sets.release raw)
            (next_by plan.sets.release (s.count + 1) (settled_by plan.sets.release raw) s.verdict) (lasts s.verdict unbroken) room raw-is lines-is
            (settled_by_lem (plan_rule plan) plan.sets.release (plan_release plan) raw)
            (next_by_lem (plan_rule plan) plan.sets.release (plan_release plan) (s.count + 1) (settled_by plan.sets.release raw) s.verdict))

-- what is held after it are states of the rule
pub taken_within : (plan : Plan) (s : Snapshot) (coming : List ℕ) (raw release count : ℕ) (after : Snapshot) → AllEvents coming → raw ≡ leads_to (plan_trees plan) s.held (head_of coming)
    → release ≡ plan.sets.release → after ≡ stepped_by release raw count s → (q : ℕ) → has after.held q ≡ true → q < length (plan_rule plan).states
taken_within plan s coming raw release count after small raw-is release_is is =
    subst (λ (n : ℕ). (q : ℕ) → has n q ≡ true → q < length (plan_rule plan).states) (sym (ap (λ (t : Snapshot). t.held) is ∙ ap₂ settled_by release_is raw-is))
    (led_within plan s.held (head_of coming) (head_low coming small))
