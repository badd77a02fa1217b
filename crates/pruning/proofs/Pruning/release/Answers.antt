-- The lowest safe state is the release state.
use Rattle.std.proofs.Common.{◌≡◌, ℕ, Bool, true, false, cond, eqb, Some, None, sym, refl, ap, ◌∙◌, subst}
use lib.Count.{count_trailing_zeros}
use Rattle.std.proofs.lemmas.Bool.{eqb-true, eqb-false}
use Rattle.rules.specs.automata.Rules.{Rule, WellFormed}
use Rattle.pruning.specs.Drafts.{rule_of, IsRelease}
use Rattle.pruning.specs.Computed.{safe_states}
use Rattle.pruning.proofs.DraftLaws.{draft_well}
use Rattle.pruning.proofs.SafeLaws.{release_some, release_none}
use Rattle.pruning.proofs.Pruning.release.Goals as goal

lowest_is : (rule : Rule) → WellFormed rule → (b : Bool) → eqb (safe_states rule) 0 ≡ b → IsRelease rule (cond b None (Some (count_trailing_zeros 32 (safe_states rule))))
lowest_is rule well true e = release_none rule well (eqb-true (safe_states rule) 0 e)
lowest_is rule well false e = release_some rule well (eqb-false (safe_states rule) 0 e)

pub returns : goal.returns
returns c =
    let p = c.args.self.now in
    let d = p.draft.now in
    let is = c.first.ensures ∙ ap (λ (s : ℕ). cond (eqb s 0) None (Some (count_trailing_zeros 32 s))) p.safe_is in
    subst (IsRelease (rule_of d)) (sym is) (lowest_is (rule_of d) (draft_well d) _ refl)
