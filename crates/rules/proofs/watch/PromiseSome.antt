-- The whole promise can be kept: it holds of some trees and answers for a well-formed rule, every lawful measure, every list of events to come and every list of calls.
use Rattle.std.proofs.Common.{◌≡◌, ℕ, zero, suc, ◌+◌, ◌^◌, ◌<◌, Bool, true, false, cond, T, ◌↔◌, List, [], ◌∷◌, length, get_or, sym, refl, ap, ◌∙◌, subst, not-suc-le-zero, arith}
use Rattle.std.specs.Prelude.{Result}
use Rattle.std.proofs.lemmas.Nat.{pow_pos, pow_below}
use Rattle.rules.specs.declared.State.{State}
use Rattle.rules.specs.declared.Call.{Call}
use Rattle.rules.specs.declared.Refusal.{Refusal}
use Rattle.rules.specs.declared.Answer.{Answer}
use Rattle.events.specs.Sets.{has, ◌∈◌, set_of, union_over}
use Rattle.rules.specs.automata.Rules.{Rule, StateWith, Starts, WellFormed}
use Rattle.rules.specs.automata.Pruning.{StandsFor, selected, Kinds, pruned_moves, Wants}
use Rattle.rules.specs.trees.Trees.{Tree, leaf}
use Rattle.rules.specs.trees.Costs.{Price, Lawful}
use Rattle.rules.specs.trees.Bests.{Fitted}
use Rattle.rules.specs.watch.Holding.{StartSet}
use Rattle.rules.specs.watch.Promises.{FittedAll, Promise}
use Rattle.events.proofs.SetLaws.{true_T, false_T, ∈_none, ∈_one, ∈_one_is, ∈_below, ∈_union, union_small, ∈-set_of}
use Rattle.rules.proofs.automata.RunLaws.{safe_below}
use Rattle.rules.proofs.automata.RuleLaws.{live_small}
use Rattle.rules.proofs.automata.PruningLaws.{selected_wanted, stands, stood}
use Rattle.rules.proofs.watch.HeldLaws.{safe_decided}
use Rattle.rules.proofs.trees.BestLaws.{best_fitted}
use Rattle.rules.proofs.trees.BestComputed.{fill, cost_in, line_in, fill_bests, build, built}
use Rattle.rules.proofs.watch.PromiseLaws.{fitted_sound}
use Rattle.rules.proofs.watch.CallsSome.{calls_all_some}

-- ---- a list of what a function gives

list_from : {A : Type 0} → ℕ → ℕ → (ℕ → A) → List A
list_from k zero f = []
list_from k (suc n) f = f k ∷ list_from (suc k) n f

list_from_length : {A : Type 0} (k n : ℕ) (f : ℕ → A) → length (list_from k n f) ≡ n
unfolding list_from
list_from_length k zero f = refl
list_from_length k (suc n) f = ap suc (list_from_length (suc k) n f)

list_from_at : {A : Type 0} (k n : ℕ) (f : ℕ → A) (i : ℕ) (d : A) → i < n → get_or (list_from k n f) i d ≡ f (k + i)
unfolding list_from
list_from_at k zero f i d l = absurd (not-suc-le-zero l)
list_from_at k (suc n) f zero d l = let same : k ≡ k + 0 = omega arith in ap f same
list_from_at k (suc n) f (suc i) d l = let same : suc k + i ≡ k + suc i = omega arith in list_from_at (suc k) n f i d (omega arith) ∙ ap f same

-- ---- every state has a fitted tree

module _ (price : Price) (rule : Rule) (live safe release : ℕ) (law : Lawful price) (well : WellFormed rule) (kinds : Kinds rule live safe release) where
  wants : ℕ → ℕ → ℕ
  wants q e = selected (pruned_moves rule live safe release q) e

  wanted : (q : ℕ) → Wants rule q (wants q)
  unfolding wants
  wanted q = selected_wanted rule live safe release kinds q

  tree : ℕ → Tree
  tree q = build price rule.lines (wants q) (fill price rule.lines (wants q) 729) 6 0

  cost : ℕ → ℕ
  cost q = cost_in price rule.lines (wants q) (fill price rule.lines (wants q) 729) 0

  state_fitted : (q : ℕ) → Fitted price rule q (tree q) (cost q)
  unfolding tree cost
  state_fitted q = best_fitted price rule q (wants q) (cost_in price rule.lines (wants q) (fill price rule.lines (wants q) 729))
      (line_in price rule.lines (wants q) (fill price rule.lines (wants q) 729)) law well (wanted q) (fill_bests price rule.lines (wants q) 729 refl)
      (build price rule.lines (wants q) (fill price rule.lines (wants q) 729) 6 0) (built price rule.lines (wants q) 729 refl)

  trees : List Tree
  trees = list_from 0 (length rule.states) tree

  costs : List ℕ
  costs = list_from 0 (length rule.states) cost

  all_fitted : FittedAll price rule trees costs
  unfolding trees costs
  all_fitted = record {
    a_tree_each = list_from_length 0 (length rule.states) tree;
    a_cost_each = list_from_length 0 (length rule.states) cost;
    fitted = λ q l.
        subst (λ (t : Tree). Fitted price rule q t (get_or (list_from 0 (length rule.states) cost) q 0)) (sym (list_from_at 0 (length rule.states) tree q (leaf 0) l ∙ ap tree (native.Mathlib.Nat.zero-add q)))
        (subst (Fitted price rule q (tree q)) (sym (list_from_at 0 (length rule.states) cost q 0 l ∙ ap cost (native.Mathlib.Nat.zero-add q))) (state_fitted q));
  }

  -- ---- the start set

  starts_by : List State → ℕ → Bool
  starts_by [] q = false
  starts_by (s ∷ states) zero = s.start
  starts_by (s ∷ states) (suc q) = starts_by states q

  starts_is : (states : List State) (q : ℕ) → T (starts_by states q) ↔ StateWith (λ s. T s.start) states q
  unfolding starts_by
  starts_is [] q = ((λ h. h), (λ h. h))
  starts_is (s ∷ states) zero = ((λ h. h), (λ h. h))
  starts_is (s ∷ states) (suc q) = starts_is states q

  -- what a state stands for, as a set
  stands_set : ℕ → ℕ
  stands_set s = cond (has live s) (2 ^ cond (has safe s) release s) 0

  stands_set_lem : (s t : ℕ) → (t ∈ stands_set s) ↔ StandsFor rule s t
  unfolding stands_set
  stands_set_lem s t = go (has live s) refl
    where
      Goal : Bool → Type 0
      Goal b = (t ∈ cond b (2 ^ cond (has safe s) release s) 0) ↔ StandsFor rule s t

      go : (b : Bool) → has live s ≡ b → Goal (has live s)
      go true p = subst Goal (sym p) (
        (λ h. stands rule live safe release kinds s t (true_T (has live s) p) (∈_one_is t (cond (has safe s) release s) h)),
        (λ st. subst (λ (k : ℕ). t ∈ 2 ^ k) (stood rule live safe release kinds s t st).1 (∈_one t)),
      )
      go false p = subst Goal (sym p) ((λ h. absurd (∈_none t h)), (λ st. absurd (false_T (has live s) p (stood rule live safe release kinds s t st).0)))

  stands_small : (s : ℕ) → stands_set s < 2 ^ 32
  unfolding stands_set
  stands_small s = go (has live s) refl (has safe s) refl
    where
      go : (b : Bool) → has live s ≡ b → (c : Bool) → has safe s ≡ c → cond b (2 ^ cond c release s) 0 < 2 ^ 32
      go true p true q = pow_below release 32 (safe_below rule release (kinds.release_is s ((kinds.safe_is s).0 (true_T (has safe s) q))).0)
      go true p false q = pow_below s 32 (∈_below 32 s live kinds.small (true_T (has live s) p))
      go false p c q = pow_pos 32

  start : ℕ
  start = union_over 32 (set_of 32 (starts_by rule.states)) stands_set

  start_set : StartSet rule start
  unfolding start
  start_set = record { small = union_small 32 (set_of 32 (starts_by rule.states)) stands_set 32 (λ s l. stands_small s); members = λ t. (fwd t, bwd t) }
    where
      fwd : (t : ℕ) → t ∈ union_over 32 (set_of 32 (starts_by rule.states)) stands_set → (s : ℕ) × Starts rule s × StandsFor rule s t
      fwd t h =
          let (s, l, st, k) = (∈_union 32 (set_of 32 (starts_by rule.states)) stands_set t).0 h in
          (s, (starts_is rule.states s).0 ((∈-set_of 32 (starts_by rule.states) s).0 st).1, (stands_set_lem s t).0 k)

      bwd : (t : ℕ) → (s : ℕ) × Starts rule s × StandsFor rule s t → t ∈ union_over 32 (set_of 32 (starts_by rule.states)) stands_set
      bwd t (s, st, k) =
          let low = live_small rule well s k.0 in
          (∈_union 32 (set_of 32 (starts_by rule.states)) stands_set t).1 (s, low, (∈-set_of 32 (starts_by rule.states) s).1 (low, (starts_is rule.states s).1 st), (stands_set_lem s t).1 k)

  -- ---- the promise for any calls

  pub promise_some : (calls : List Call) (coming : List ℕ)
      → (trees : List Tree) × ((costs : List ℕ) × ((answers : List (Result Answer Refusal)) × ((left : List ℕ) × Promise price rule trees costs calls coming answers left)))
  promise_some calls coming =
      let sound = fitted_sound price rule trees costs well (safe_decided rule safe kinds.safe_is) all_fitted in
      let (answers, (es, (left, all))) = calls_all_some rule trees sound start start_set calls [] coming (omega arith) in
      (trees, (costs, (answers, (left, record { fit = all_fitted; taken = es; answered = all }))))
