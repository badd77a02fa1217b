-- The sets that the pruning tells are those that a plan keeps.
use Rattle.std.proofs.Common.{ap, ◌∙◌, rules}
use Rattle.std.proofs.lemmas.Option.{MatchOption-at_none, MatchOption-at_some}
use Rattle.rulefile.specs.declared.draft.Draft.{Draft}
use Rattle.pruning.specs.Drafts.{rule_of}
use Rattle.pruning.specs.Computed.{live_states, safe_states}
use Rattle.pruning.proofs.DraftLaws.{draft_well}
use Rattle.fitting.specs.Reading.{release_set, start_states}
use Rattle.fitting.proofs.PlanLaws.{live_same, safe_same, starts_same, release_same}
use Rattle.fitting.proofs.plan.make.plan_of.Goals as goal

pub invariant_of-result-clause-live_is : goal.invariant_of-result-clause-live_is
invariant_of-result-clause-live_is c =
    let d = c.of-pruning.result.draft.now in
    live_same (rule_of d) (draft_well d) c.live.result c.live.type_inv c.live.ensures ∙ ap (λ (x : Draft). live_states (rule_of x)) c.of-pruning.ensures.same

pub invariant_of-result-clause-safe_is : goal.invariant_of-result-clause-safe_is
invariant_of-result-clause-safe_is c =
    let d = c.of-pruning.result.draft.now in
    safe_same (rule_of d) (draft_well d) c.safe.result c.safe.type_inv c.safe.ensures ∙ ap (λ (x : Draft). safe_states (rule_of x)) c.of-pruning.ensures.same

pub invariant_of-result-clause-starts_are : goal.invariant_of-result-clause-starts_are
invariant_of-result-clause-starts_are c =
    let d = c.of-pruning.result.draft.now in
    starts_same (rule_of d) (draft_well d) c.starts.result c.starts.type_inv c.starts.ensures ∙ ap (λ (x : Draft). start_states (rule_of x).states) c.of-pruning.ensures.same

pub invariant_of-result-clause-release_is : goal.invariant_of-result-clause-release_is
invariant_of-result-clause-release_is c =
    let d = c.of-pruning.result.draft.now in
    release_same (rule_of d) (draft_well d) c.release.result c.map_or.result c.release.ensures (λ e. MatchOption-at_none _ _ e c.map_or.ensures)
    (λ q e l. let h = MatchOption-at_some _ _ q e c.map_or.ensures in search rules)
    ∙ ap (λ (x : Draft). release_set (rule_of x)) c.of-pruning.ensures.same
