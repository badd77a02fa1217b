-- What stands of every plan: its sets of states are what their names say, and its trees are those that were fitted.
use Rattle.std.proofs.Common.{◌≡◌, ℕ, ◌^◌, ◌<◌, ◌≤◌, Bool, true, false, cond, eqb, ◌⊎◌, ◌↔◌, List, length, get_or, replicate, Some, None, Option, sym, refl, ap, ◌∙◌, subst, subst₂, inl, inr, arith}
use Rattle.std.proofs.Math.Pow.{pow_mono}
use Rattle.std.proofs.lemmas.List.{get_or_past}
use Rattle.std.proofs.lemmas.Bool.{cases_lt, eqb-true, eqb-false}
use Rattle.events.specs.Sets.{◌∈◌}
use Rattle.events.proofs.SetLaws.{dec∈, same_members, set_of_small}
use Rattle.rules.specs.declared.Node.{Node}
use Rattle.rules.specs.automata.Rules.{Rule, Starts, WellFormed}
use Rattle.rules.specs.automata.Runs.{Live, Safe}
use Rattle.rules.specs.automata.Pruning.{IsPrunedSet}
use Rattle.rules.specs.trees.Trees.{Tree, leaf, gives, Serves}
use Rattle.rules.specs.trees.Layouts.{top_of, Stands}
use Rattle.rules.specs.trees.Costs.{Price, Lawful}
use Rattle.rules.specs.watch.Holding.{tree_of, ReleaseSet, SafeDecided, Sound}
use Rattle.rules.specs.watch.Promises.{FittedAll}
use Rattle.rules.proofs.automata.RunLaws.{safe_live, release_one}
use Rattle.rules.proofs.automata.RuleLaws as below
use Rattle.rulefile.specs.Draft.{contents_of, empty_contents}
use Rattle.pruning.specs.Drafts.{rule_of, IsRelease}
use Rattle.rules.proofs.watch.WatchLaws.{dead_serves}
use Rattle.pruning.specs.Computed.{live_states, safe_states, lowest_safe, pruned_set}
use Rattle.pruning.proofs.DraftLaws.{draft_well}
use Rattle.pruning.proofs.LiveLaws.{flagged_is, live_small, live_right}
use Rattle.pruning.proofs.SafeLaws.{safe_small, safe_right, release_some, release_none, pruned_right}
use Rattle.fitting.specs.declared.fit.Fitting.{Fitting}
use Rattle.fitting.specs.declared.plan.Plan.{Plan}
use Rattle.fitting.specs.Fits.{DraftFitted, told_costs, told_tops}
use Rattle.fitting.specs.Reading.{tree_at, read_trees, start_states, release_set}
use Rattle.fitting.specs.Plans.{PlanOf, plan_trees, one_state, one_leaf}
use Rattle.fitting.proofs.OneState.{contents_rule, one_told, one_draft_fitted}
use Rattle.fitting.proofs.ReadLaws.{sound_stands, length-tabled, get_or-tabled, read_fitted, read_stands, read_tops}

-- ---- sets of states

pub start_right : (rule : Rule) (q : ℕ) → (q ∈ start_states rule.states) ↔ Starts rule q
unfolding start_states
start_right rule = flagged_is (λ s. s.start) rule.states

pub start_small : (rule : Rule) → WellFormed rule → start_states rule.states < 2 ^ 32
unfolding start_states
start_small rule well =
    omega (arith, set_of_small (length rule.states) (λ q. (get_or rule.states q (record { start = false; accepting = false })).start), pow_mono {i = length rule.states} {j = 32}, well.few_states)

-- sets with the same members are one
same_set : (P : ℕ → Type 0) (a b : ℕ) → a < 2 ^ 32 → b < 2 ^ 32 → ((q : ℕ) → (q ∈ a) ↔ P q) → ((q : ℕ) → (q ∈ b) ↔ P q) → a ≡ b
same_set P a b small small' is is' = same_members 32 a b small small' (λ k. ((λ h. (is' k).1 ((is k).0 h)), (λ h. (is k).1 ((is' k).0 h))))

module _ (rule : Rule) (well : WellFormed rule) where
  pub live_same : (live : ℕ) → live < 2 ^ 32 → ((q : ℕ) → (q ∈ live) ↔ Live rule q) → live ≡ live_states rule
  live_same live small is = same_set (Live rule) live (live_states rule) small (live_small rule well) is (live_right rule well)

  pub safe_same : (safe : ℕ) → safe < 2 ^ 32 → ((q : ℕ) → (q ∈ safe) ↔ Safe rule q) → safe ≡ safe_states rule
  safe_same safe small is = same_set (Safe rule) safe (safe_states rule) small (safe_small rule well) is (safe_right rule well)

  pub starts_same : (starts : ℕ) → starts < 2 ^ 32 → ((q : ℕ) → (q ∈ starts) ↔ Starts rule q) → starts ≡ start_states rule.states
  starts_same starts small is = same_set (Starts rule) starts (start_states rule.states) small (start_small rule well) is (start_right rule)

  -- the release state as a set, and none as the empty set
  pub release_same : (r : Option ℕ) (set : ℕ) → IsRelease rule r → (r ≡ None → set ≡ 0) → ((q : ℕ) → r ≡ Some q → q < 32 → set ≡ 2 ^ q) → set ≡ release_set rule
  unfolding release_set
  release_same None set none at_none at_some = at_none refl ∙ go (eqb (safe_states rule) 0) refl
    where
      go : (b : Bool) → eqb (safe_states rule) 0 ≡ b → 0 ≡ cond b 0 (2 ^ lowest_safe rule)
      go true e = refl
      go false e = absurd (none (lowest_safe rule) (release_some rule well (eqb-false (safe_states rule) 0 e)).0)
  release_same (Some q) set release at_none at_some = at_some q refl (below.live_small rule well q (safe_live rule q release.0)) ∙ go (eqb (safe_states rule) 0) refl
    where
      go : (b : Bool) → eqb (safe_states rule) 0 ≡ b → 2 ^ q ≡ cond b 0 (2 ^ lowest_safe rule)
      go true e = absurd (release_none rule well (eqb-true (safe_states rule) 0 e) q release.0)
      go false e = ap (λ (k : ℕ). 2 ^ k) (release_one rule q (lowest_safe rule) release (release_some rule well (eqb-false (safe_states rule) 0 e)))

  pub release_right : ReleaseSet rule (release_set rule)
  unfolding release_set
  release_right = go (eqb (safe_states rule) 0) refl
    where
      go : (b : Bool) → eqb (safe_states rule) 0 ≡ b → ReleaseSet rule (cond b 0 (2 ^ lowest_safe rule))
      go true e = inr ((λ r release. release_none rule well (eqb-true (safe_states rule) 0 e) r release.0), refl)
      go false e = inl (lowest_safe rule, release_some rule well (eqb-false (safe_states rule) 0 e), refl)

-- ---- every plan

module _ (plan : Plan) where
  -- a state's tree is the one that is read at its top
  pub tree_is : (q : ℕ) → q < length (rule_of plan.draft).states → tree_of (plan_trees plan) q ≡ tree_at 7 plan.nodes.now (get_or plan.tops q 0)
  unfolding read_trees
  tree_is q l = get_or-tabled (length (rule_of plan.draft).states) (λ k. tree_at 7 plan.nodes.now (get_or plan.tops k 0)) q (leaf 0) l

  pub plan_stands : (q : ℕ) → q < length (rule_of plan.draft).states → Stands plan.nodes.now (get_or plan.tops q 0) (tree_of (plan_trees plan) q)
  plan_stands q l = subst (Stands plan.nodes.now (get_or plan.tops q 0)) (sym (tree_is q l)) (sound_stands 7 plan.nodes.now (get_or plan.tops q 0) (plan.walkable q l))

  gives_there : (q : ℕ) → q < length (rule_of plan.draft).states → (e : ℕ) → e < 64 → gives (tree_of (plan_trees plan) q) e ≡ pruned_set (rule_of plan.draft) q e
  gives_there q l e le =
      ap (λ (t : Tree). gives t e) (tree_is q l)
      ∙ sym (get_or-tabled 64 (gives (tree_at 7 plan.nodes.now (get_or plan.tops q 0))) e 0 le)
      ∙ ap (λ (xs : List ℕ). get_or xs e 0) (plan.pruned q l)
      ∙ get_or-tabled 64 (pruned_set (rule_of plan.draft) q) e 0 le

  past_leaf : (q : ℕ) → length (rule_of plan.draft).states ≤ q → tree_of (plan_trees plan) q ≡ leaf 0
  unfolding read_trees
  past_leaf q past = get_or_past (plan_trees plan) q (leaf 0)
      (omega (arith, past, length-tabled (length (rule_of plan.draft).states) (λ k. tree_at 7 plan.nodes.now (get_or plan.tops k 0))))

  serves_all : (q : ℕ) → (q < length (rule_of plan.draft).states) ⊎ (length (rule_of plan.draft).states ≤ q) → Serves (rule_of plan.draft) q (tree_of (plan_trees plan) q)
  serves_all q (inl l) = λ e le. subst (IsPrunedSet (rule_of plan.draft) q e) (sym (gives_there q l e le)) (pruned_right (rule_of plan.draft) (draft_well plan.draft) q e)
  serves_all q (inr past) =
      subst (Serves (rule_of plan.draft) q) (sym (past_leaf q past)) (dead_serves (rule_of plan.draft) q (below.past_dead (rule_of plan.draft) (draft_well plan.draft) q past))

  safe_decided : SafeDecided (rule_of plan.draft)
  safe_decided q = go (dec∈ q (safe_states (rule_of plan.draft)))
    where
      go : (q ∈ safe_states (rule_of plan.draft)) ⊎ (q ∈ safe_states (rule_of plan.draft) → ⊥) → Safe (rule_of plan.draft) q ⊎ (Safe (rule_of plan.draft) q → ⊥)
      go (inl h) = inl ((safe_right (rule_of plan.draft) (draft_well plan.draft) q).0 h)
      go (inr out) = inr (λ s. out ((safe_right (rule_of plan.draft) (draft_well plan.draft) q).1 s))

  pub plan_sound : Sound (rule_of plan.draft) (plan_trees plan)
  plan_sound = record { decided = safe_decided; serves = λ q l. serves_all q (cases_lt q (length (rule_of plan.draft).states)) }

-- ---- a plan of a fitted rule

module _ (price : Price) (rule : Rule) (nodes : List Node) (told : Fitting) (fit : DraftFitted price rule nodes nodes told) (plan : Plan)
    (rule_is : rule_of plan.draft ≡ rule) (nodes_are : plan.nodes.now ≡ nodes) (tops_are : plan.tops ≡ told_tops told) where
  trees_are : plan_trees plan ≡ read_trees rule nodes (told_tops told)
  trees_are = λ i. read_trees (rule_is i) (nodes_are i) (tops_are i)

  top_is : (q : ℕ) → get_or plan.tops q 0 ≡ get_or (told_tops told) q 0
  top_is q = ap (λ (ts : List ℕ). get_or ts q 0) tops_are

  stands_there : (q : ℕ) → q < length rule.states → Stands nodes (get_or plan.tops q 0) (tree_of (plan_trees plan) q)
  stands_there q l = subst₂ (λ (p : ℕ) (ts : List Tree). Stands nodes p (tree_of ts q)) (sym (top_is q)) (sym trees_are) (read_stands price rule nodes nodes told fit q l)

  pub plan_is : PlanOf price rule nodes plan
  plan_is =
      let d = plan.draft in
      record {
        rule_is = rule_is;
        nodes_are = nodes_are;
        costs = told_costs told;
        fitted = subst (λ (ts : List Tree). FittedAll price rule ts (told_costs told)) (sym trees_are) (read_fitted price rule nodes nodes told fit);
        stands = stands_there;
        tops_are = λ q l. top_is q ∙ read_tops price rule nodes nodes told fit q l ∙ ap (λ (ts : List Tree). top_of ts q) (sym trees_are);
        lines_are = plan.lines_are ∙ ap (λ (r : Rule). r.lines) rule_is;
        live_is = λ q. subst₂ (λ (s : ℕ) (r : Rule). (q ∈ s) ↔ Live r q) (sym plan.live_is) rule_is (live_right (rule_of d) (draft_well d) q);
        safe_is = λ q. subst₂ (λ (s : ℕ) (r : Rule). (q ∈ s) ↔ Safe r q) (sym plan.safe_is) rule_is (safe_right (rule_of d) (draft_well d) q);
        starts_are = λ q. subst₂ (λ (s : ℕ) (r : Rule). (q ∈ s) ↔ Starts r q) (sym plan.starts_are) rule_is (start_right (rule_of d) q);
        release_is = subst₂ (λ (s : ℕ) (r : Rule). ReleaseSet r s) (sym plan.release_is) rule_is (release_right (rule_of d) (draft_well d));
      }

-- ---- the plan of the one-state rule

pub one_plan : (price : Price) → Lawful price → (plan : Plan) → contents_of plan.draft ≡ empty_contents → plan.nodes.now ≡ one_leaf → plan.tops ≡ replicate 32 0 → PlanOf price one_state one_leaf plan
one_plan price law plan contents nodes tops = plan_is price one_state one_leaf one_told (one_draft_fitted price law) plan (contents_rule plan.draft contents) nodes tops
