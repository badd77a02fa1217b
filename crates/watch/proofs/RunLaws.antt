-- Calls made one after the other, and the whole promise of a run.
use Rattle.std.proofs.Common.{◌≡◌, ℕ, ◌+◌, ◌<◌, ◌≤◌, min, List, [], ◌∷◌, length, get_or, take, drop, set, sym, refl, ap, ◌∙◌, subst, subst₂, add-one, arith, length-drop, drop-cons}
use Rattle.std.specs.Prelude.{Result}
use Rattle.std.proofs.lemmas.List.{take-set, get_or-set_same, length-set, drop-set-lt, drop-drop}
use Rattle.std.specs.List.{AllByRecursion}
use Rattle.rules.specs.declared.Node.{Node}
use Rattle.rules.specs.declared.Snapshot.{Snapshot}
use Rattle.rules.specs.declared.Call.{Call}
use Rattle.rules.specs.declared.Refusal.{Refusal}
use Rattle.rules.specs.declared.Answer.{Answer}
use Rattle.rules.specs.automata.Rules.{Rule, Event}
use Rattle.rules.specs.trees.Trees.{Tree}
use Rattle.rules.specs.trees.Costs.{Price}
use Rattle.rules.specs.watch.Calls.{CallsAll}
use Rattle.rules.specs.watch.Promises.{Called}
use Rattle.rules.proofs.watch.CalledLaws.{CalledSome, called_next}
use Rattle.rules.proofs.watch.PromiseOne.{fitted_all_one}
use Rattle.fitting.specs.declared.fit.Fitting.{Fitting}
use Rattle.fitting.specs.declared.plan.Plan.{Plan}
use Rattle.fitting.specs.Fits.{DraftFitted, told_costs}
use Rattle.fitting.specs.Plans.{AsFitted, PlanOf, plan_rule, plan_trees}
use Rattle.fitting.proofs.ReadLaws.{same_fitted}
use Rattle.watch.specs.Running.{Lent, CallsMade, Watched}
use Rattle.watch.specs.Watching.{CalledOn}

-- ---- one call more, whose answer is written at its place

-- the call after the first k, and those behind it
pub record NextCall (calls : List Call) (k : ℕ) (c : Call) (more : List Call) : Type 0 where
  pub within : k < length calls
  pub is : c ≡ get_or calls k c
  pub left : more ≡ drop (k + 1) calls

pub next_call : (calls rest more : List Call) (k : ℕ) (c : Call) → rest ≡ drop k calls → rest ≡ c ∷ more → NextCall calls k c more
next_call calls rest more k c left is = record { within = within; is = cc all; left = cc all }
  where
    within : k < length calls
    within = omega (arith, length-drop k calls, ap length (sym left ∙ is))

    all : c ∷ more ≡ get_or calls k c ∷ drop (k + 1) calls
    all = sym is ∙ left ∙ rw add-one (drop-cons calls k c within)

pub calls_more : (plan p : Plan) (calls more : List Call) (coming : List ℕ) (answers : List (Result Answer Refusal)) (k : ℕ) (s s' : Snapshot) (left left' : List ℕ) (c : Call) (a : Result Answer Refusal)
    → NextCall calls k c more → k < length answers → p ≡ plan → CalledSome (plan_rule plan) (plan_trees plan) calls coming answers k s left
    → CalledOn p c s left a s' left' → CalledSome (plan_rule plan) (plan_trees plan) calls coming (set answers k a) (k + 1) s' left'
unfolding CalledOn
calls_more plan p calls more coming answers k s s' left left' c a next la same so_far called =
    called_next (plan_rule plan) (plan_trees plan) calls coming (set answers k a) k s s' left left' c a next.within (subst (λ (n : ℕ). k < n) (sym (length-set answers k a)) la) written
    (subst₂ (λ (d : Call) (x : Result Answer Refusal). Called (plan_rule plan) (plan_trees plan) d s left x s' left') next.is (sym (get_or-set_same answers k a a la))
    (subst (λ (q : Plan). CalledOn q c s left a s' left') same called))
  where
    written : CalledSome (plan_rule plan) (plan_trees plan) calls coming (set answers k a) k s left
    written = record {
      es = so_far.es;
      stands = so_far.stands;
      answered = subst (λ (xs : List (Result Answer Refusal)). CallsAll (plan_rule plan) (plan_trees plan) (take k calls) [] coming xs so_far.es left) (sym (take-set answers k a)) so_far.answered;
    }

-- what is not written yet stays
pub rest_kept : (answers before : List (Result Answer Refusal)) (k : ℕ) (a : Result Answer Refusal) → drop k answers ≡ drop k before → drop (k + 1) (set answers k a) ≡ drop (k + 1) before
rest_kept answers before k a h = drop-set-lt (k + 1) answers k a (omega arith) ∙ sym (drop-drop 1 k answers) ∙ ap (drop 1) h ∙ drop-drop 1 k before

-- ---- the whole promise

-- nodes that were just fitted are as fitting leaves them
pub just_fitted : (price : Price) (rule : Rule) (before after : List Node) (told : Fitting) → 4064 ≤ length after → DraftFitted price rule before after told → AsFitted price rule after told
just_fitted price rule before after told room fit = record { room = room; fit = same_fitted price rule before after told fit after refl }

pub watched : (price : Price) (rule : Rule) (calls : List Call) (before after : Lent) (told : Fitting) (made : ℕ) (plan : Plan)
    → 4064 ≤ length before.nodes → (fit : DraftFitted price rule before.nodes after.nodes told) → AllByRecursion (Event rule) before.coming → PlanOf price rule after.nodes plan
    → made ≡ min (length calls) (length before.answers) → CallsMade plan (take made calls) before.coming (take made after.answers) after.coming
    → drop made after.answers ≡ drop made before.answers → Watched price rule calls before after (record { told = told; made = made })
watched price rule calls before after told made plan room fit comes of made_is (taken, all) rest = record {
  room = room;
  fitted = fit;
  comes = comes;
  made_is = made_is;
  promise = record {
    fit = fit.fitted;
    taken = taken;
    answered = subst₂ (λ (r : Rule) (ts : List Tree). CallsAll r ts (take made calls) [] before.coming (take made after.answers) taken after.coming) of.rule_is
        (fitted_all_one price rule (plan_trees plan) fit.trees of.costs (told_costs told) of.fitted fit.fitted).0 all;
  };
  rest = rest;
}

-- ---- all calls made

pub calls_all : (plan : Plan) (calls : List Call) (coming : List ℕ) (before after : List (Result Answer Refusal)) (k made : ℕ) (s : Snapshot) (left : List ℕ) → k ≡ made
    → CalledSome (plan_rule plan) (plan_trees plan) calls coming after k s left → drop k after ≡ drop k before
    → CallsMade plan (take made calls) coming (take made after) left × (drop made after ≡ drop made before)
calls_all plan calls coming before after k made s left all so_far rest =
    subst (λ (n : ℕ). CallsMade plan (take n calls) coming (take n after) left × (drop n after ≡ drop n before)) all ((so_far.es, so_far.answered), rest)
