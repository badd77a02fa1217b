-- The start states among the records are those of the rule.
use Rattle.std.proofs.Common.{ℕ, ◌≤◌, ◌↔◌, List, map, length, sym, ap, ◌∙◌, subst, rules}
use Rattle.events.specs.Sets.{◌∈◌}
use Rattle.rules.specs.automata.Rules.{Starts}
use Rattle.rulefile.specs.Records.{StateRecord}
use Rattle.pruning.specs.Drafts.{rule_of}
use Rattle.pruning.proofs.DraftLaws.{draft_few, draft_states}
use Rattle.pruning.proofs.LiveLaws.{flagged_is}
use Rattle.pruning.proofs.LoopLaws.{places_are, passing}
use Rattle.pruning.proofs.Pruning.starts.Goals as goal

pub returns : goal.returns
returns c =
    let d = c.args.self.now.draft.now in
    let few = subst (λ (ss : List StateRecord). length ss ≤ 32) (sym c.states.ensures) (draft_few d) in
    let set =
    places_are (λ s. s.start) c.states.result.now c.states_with.result few c.states_with.type_inv (λ q l. let h = c.states_with.ensures q l in search rules)
    ∙ ap (passing (λ s. s.start)) (ap (λ (ss : List StateRecord). map (λ s. s.value) ss) c.states.ensures ∙ sym (draft_states d)) in
    λ q. subst (λ (n : ℕ). (q ∈ n) ↔ Starts (rule_of d) q) (sym set) (flagged_is (λ s. s.start) (rule_of d).states q)
