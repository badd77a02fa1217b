-- The nodes are as fitting leaves them just when they have room and start with the nodes fitted anew.
use Rattle.std.proofs.Common.{◌≡◌, ℕ, List, Bool, true, false, ◌++◌, drop, Option, MatchOption, sym, refl, ap, ◌∙◌, subst, take-append-drop, arith}
use Rattle.std.specs.Bool.{then_some}
use Rattle.pruning.specs.Drafts.{rule_of}
use Rattle.rules.specs.declared.Node.{Node}
use Rattle.fitting.specs.declared.fit.Fitting.{Fitting}
use Rattle.fitting.specs.Plans.{AsFitted}
use Rattle.fitting.proofs.ReadLaws.{starts_fitted, front_starts, fronts_agree}
use Rattle.fitting.proofs.plan.make.as_fitted.Goals as goal

pub returns : goal.returns
returns g c =
    let price = g.M.Measure.price c.args.measure.now in
    let rule = rule_of c.args.draft.now in
    let nodes = c.args.nodes.now in
    let told = c.fit_states-told.result in
    let fit = c.fit_states-told.ensures in
    let same = c.same_nodes.ensures in
    let go : (b : Bool) → c.same_nodes.result ≡ b → MatchOption (then_some b told) ((other : Fitting) → AsFitted price rule nodes other → ⊥) (AsFitted price rule nodes) = λ b.
    elim b as (λ b. c.same_nodes.result ≡ b → MatchOption (then_some b told) ((other : Fitting) → AsFitted price rule nodes other → ⊥) (AsFitted price rule nodes)) [
      | true ↦ λ e. record {
        room = omega arith;
        fit = starts_fitted price rule _ _ nodes _ told fit (sym (take-append-drop told.behind nodes) ∙ ap (λ (l : List Node). l ++ drop told.behind nodes) (same.0 e));
      }
      | false ↦ λ e other is. (let f = same.1 (sym (front_starts price rule _ _ told fit nodes _ (fronts_agree price rule _ _ nodes told other fit is.fit))) in let z : ◌≡◌ {A = ℕ} 0 1 = cc in omega arith)
    ] in
    subst (λ (r : Option Fitting). MatchOption r ((other : Fitting) → AsFitted price rule nodes other → ⊥) (AsFitted price rule nodes)) (sym c.then_some.ensures) (go c.same_nodes.result refl)
