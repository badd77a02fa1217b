-- The rule of every draft is well-formed, and the sets are its live and its safe states.
use Rattle.std.proofs.Common.{◌≤◌, List, length, map, sym, ap, ap₂, ◌∙◌, subst, rules}
use Rattle.rulefile.specs.Records.{StateRecord}
use Rattle.pruning.specs.Drafts.{rule_of}
use Rattle.pruning.specs.Computed.{accepting, safe_in}
use Rattle.pruning.proofs.DraftLaws.{draft_well, draft_few, draft_states}
use Rattle.pruning.proofs.LiveLaws.{live_from}
use Rattle.pruning.proofs.LoopLaws.{places_are}
use Rattle.pruning.proofs.Pruning.of.Goals as goal

pub invariant_of-result : goal.invariant_of-result
unfolding accepting
invariant_of-result c =
    let d = c.args.draft.now in
    let few = subst (λ (ss : List StateRecord). length ss ≤ 32) (sym c.states.ensures) (draft_few d) in
    let accepts = places_are (λ s. s.accepting) c.states.result.now c.states_with-accepts.result few c.states_with-accepts.type_inv (λ q l. let h = c.states_with-accepts.ensures q l in search rules) in
    let live =
    live_from (rule_of d) _ _ _ _ _ c.of-moves.ensures (ap (λ (ss : List StateRecord). map (λ s. s.value) ss) c.states.ensures ∙ sym (draft_states d))
    c.of.ensures accepts c.live-live.ensures in
    record { live_is = live; safe_is = c.safe_among-safe.ensures ∙ ap₂ safe_in c.of-moves.ensures live }

pub returns-clause-well : goal.returns-clause-well
returns-clause-well c = draft_well c.args.draft.now
