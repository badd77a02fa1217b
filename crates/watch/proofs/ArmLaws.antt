-- A plan newly armed stands after no event, and holds states of its rule.
use Rattle.std.proofs.Common.{◌≡◌, ℕ, ◌^◌, ◌<◌, true, ◌↔◌, length, sym, ap, ◌∙◌, subst, ap₂, arith, pow_mono}
use Rattle.events.specs.Sets.{has, ◌∈◌}
use Rattle.events.proofs.SetLaws.{set_of_small}
use Rattle.rules.specs.declared.Snapshot.{Snapshot}
use Rattle.rules.specs.automata.Rules.{Starts, WellFormed}
use Rattle.rules.specs.automata.Runs.{Live, Safe}
use Rattle.rules.proofs.watch.CalledLaws.{after_armed}
use Rattle.pruning.proofs.DraftLaws.{draft_well}
use Rattle.pruning.proofs.LiveLaws.{live_right}
use Rattle.pruning.proofs.SafeLaws.{safe_right}
use Rattle.fitting.specs.declared.plan.Plan.{Plan}
use Rattle.fitting.specs.declared.plan.access.Sets.{Sets}
use Rattle.fitting.specs.Plans.{plan_rule, plan_trees}
use Rattle.fitting.specs.Reading.{start_states}
use Rattle.fitting.proofs.PlanLaws.{start_right}
use Rattle.watch.specs.Steps.{reads_by, begun_with, start_by}
use Rattle.watch.specs.Watching.{ArmedOn}
use Rattle.watch.proofs.StepLaws.{reads_by_lem, release_lives, plan_release, lives_within}
use Rattle.watch.proofs.StartLaws.{Begun, begun, begun_lives}

module _ (plan : Plan) where
  well : WellFormed (plan_rule plan)
  well = draft_well plan.draft

  live_there : (q : ℕ) → (q ∈ plan.sets.live) ↔ Live (plan_rule plan) q
  live_there q = subst (λ (n : ℕ). (q ∈ n) ↔ Live (plan_rule plan) q) (sym plan.live_is) (live_right (plan_rule plan) well q)

  safe_there : (q : ℕ) → (q ∈ plan.sets.safe) ↔ Safe (plan_rule plan) q
  safe_there q = subst (λ (n : ℕ). (q ∈ n) ↔ Safe (plan_rule plan) q) (sym plan.safe_is) (safe_right (plan_rule plan) well q)

  starts_there : (q : ℕ) → (q ∈ plan.sets.starts) ↔ Starts (plan_rule plan) q
  starts_there q = subst (λ (n : ℕ). (q ∈ n) ↔ Starts (plan_rule plan) q) (sym plan.starts_are) (start_right (plan_rule plan) q)

  start_small : start_states (plan_rule plan).states < 2 ^ 32
  unfolding start_states
  start_small = omega (arith, set_of_small (length (plan_rule plan).states) (λ q. (lib.ListN.get_or (plan_rule plan).states q (record { start = mathlib.Core.Bool.false; accepting = mathlib.Core.Bool.false })).start), pow_mono well.few_states)

  plan_begun : Begun (plan_rule plan) (start_by plan.sets)
  plan_begun = begun (plan_rule plan) well plan.sets.live plan.sets.safe plan.sets.starts plan.sets.release live_there safe_there starts_there
      (subst (λ (n : ℕ). n < 2 ^ 32) (sym plan.starts_are) start_small) (plan_release plan)

  -- what is begun with, from the plan's sets
  module _ (sets : Sets) (held release : ℕ) (s : Snapshot) (sets_are : sets ≡ plan.sets)
      (held-is : held ≡ start_by sets) (same_release : release ≡ plan.sets.release) (begins : s ≡ begun_with release held) where
    begun_there : s ≡ begun_with plan.sets.release (start_by plan.sets)
    begun_there =
        begins ∙ ap₂ begun_with same_release (held-is ∙ ap start_by sets_are)

    -- it stands after no event
    pub armed_there : ArmedOn plan s
    unfolding ArmedOn
    armed_there =
        let (raw, start, settled) = plan_begun in
        subst (ArmedOn plan) (sym begun_there)
        (after_armed (plan_rule plan) (plan_trees plan) raw (start_by plan.sets) (reads_by plan.sets.release 0 (start_by plan.sets)) start settled
        (reads_by_lem (plan_rule plan) plan.sets.release (plan_release plan) 0 (start_by plan.sets)))

    -- and holds states of the rule
    pub armed_within : (q : ℕ) → has s.held q ≡ true → q < length (plan_rule plan).states
    armed_within = subst (λ (h : ℕ). (q : ℕ) → has h q ≡ true → q < length (plan_rule plan).states) (sym (ap (λ (t : Snapshot). t.held) begun_there))
        (lives_within plan (start_by plan.sets)
        (begun_lives (plan_rule plan) well plan.sets.live plan.sets.safe plan.sets.starts plan.sets.release live_there safe_there starts_there
        (subst (λ (n : ℕ). n < 2 ^ 32) (sym plan.starts_are) start_small) (plan_release plan)
        (release_lives (plan_rule plan) plan.sets.release (plan_release plan))))
