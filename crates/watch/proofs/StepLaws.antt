-- What a watch keeps, computed from the release state as a set, is what the definitions say; and it holds live states alone.
use Rattle.std.proofs.Common.{◌≡◌, ℕ, ◌^◌, ◌<◌, Bool, true, false, cond, eqb, ◌⊎◌, List, length, sym, refl, subst, inl, inr}
use lib.Bits.{bit_and}
use Rattle.std.proofs.lemmas.Bool.{eqb-true, eqb-false}
use Rattle.events.specs.Sets.{has, ◌∈◌}
use Rattle.events.proofs.SetLaws.{true_T, ∈_none, ∈_one_is, ∈_union}
use Rattle.rules.specs.declared.Verdict.{Verdict}
use Rattle.rules.specs.declared.Verdict.TheVariants as verdict
use Rattle.rules.specs.automata.Rules.{Rule}
use Rattle.rules.specs.automata.Runs.{Live, Safe}
use Rattle.rules.specs.automata.Pruning.{Release, Pruned}
use Rattle.rules.specs.trees.Trees.{Tree, gives}
use Rattle.rules.specs.watch.Verdicts.{word_of}
use Rattle.rules.specs.watch.Holding.{tree_of, leads_to, Sound, Settled, ReleaseSet, Reads, Next}
use Rattle.rules.proofs.automata.RunLaws.{safe_live}
use Rattle.rules.proofs.automata.RuleLaws.{live_below}
use Rattle.rules.proofs.watch.PromiseLaws.{settled_open, settled_released, reads_breach, reads_clear, reads_open}
use Rattle.pruning.proofs.DraftLaws.{draft_well}
use Rattle.fitting.specs.declared.plan.Plan.{Plan}
use Rattle.fitting.specs.Plans.{plan_rule, plan_trees}
use Rattle.fitting.proofs.PlanLaws.{release_right, plan_sound}
use Rattle.watch.specs.Steps.{settled_by, reads_by, next_by}

-- ---- the set that is held, and the verdict

module _ (rule : Rule) (release : ℕ) (is : ReleaseSet rule release) where
  pub settled_by_lem : (raw : ℕ) → Settled rule raw (settled_by release raw)
  settled_by_lem raw = go (eqb (bit_and raw release) 0) refl
    where
      go : (b : Bool) → eqb (bit_and raw release) 0 ≡ b → Settled rule raw (cond b raw release)
      go true e = settled_open rule release is raw (eqb-true (bit_and raw release) 0 e)
      go false e = settled_released rule release is raw (eqb-false (bit_and raw release) 0 e)

  pub reads_by_lem : (count set : ℕ) → Reads rule count set (reads_by release count set)
  reads_by_lem count set = go (eqb set 0) refl
    where
      some : (set ≡ 0 → ⊥) → (b : Bool) → eqb (bit_and set release) 0 ≡ b → Reads rule count set (cond b verdict.Open (verdict.ClearSince count))
      some nz true e = reads_open rule release is count set nz (eqb-true (bit_and set release) 0 e)
      some nz false e = reads_clear rule release is count set (eqb-false (bit_and set release) 0 e)

      go : (b : Bool) → eqb set 0 ≡ b → Reads rule count set (cond b (verdict.BreachAt count) (cond (eqb (bit_and set release) 0) verdict.Open (verdict.ClearSince count)))
      go true e = subst (λ (s : ℕ). Reads rule count s (verdict.BreachAt count)) (sym (eqb-true set 0 e)) (reads_breach rule release is count)
      go false e = some (eqb-false set 0 e) (eqb (bit_and set release) 0) refl

  pub next_by_lem : (count set : ℕ) (v : Verdict) → Next rule count set v (next_by release count set v)
  next_by_lem count set verdict.Open = reads_by_lem count set
  next_by_lem count set (verdict.BreachAt j) = refl
  next_by_lem count set (verdict.ClearSince i) = refl

  -- the members of the release state's set are live
  pub release_lives : (q : ℕ) → q ∈ release → Live rule q
  release_lives q h = go is
    where
      go : ((r : ℕ) × Release rule r × (release ≡ 2 ^ r)) ⊎ (((r : ℕ) → Release rule r → ⊥) × (release ≡ 0)) → Live rule q
      go (inl (r, rel, e)) = safe_live rule q (subst (Safe rule) (sym (∈_one_is q r (subst (λ (n : ℕ). q ∈ n) e h))) rel.0)
      go (inr (none, e)) = absurd (∈_none q (subst (λ (n : ℕ). q ∈ n) e h))

-- the word of the next verdict is that of the verdict before, and of the held set: the counts say nothing of it
pub next_word : (release held a b : ℕ) (v w : Verdict) → word_of v ≡ word_of w → word_of (next_by release a held v) ≡ word_of (next_by release b held w)
next_word release held a b verdict.Open verdict.Open e = go (eqb held 0) (eqb (bit_and held release) 0)
  where
    go : (x y : Bool) → word_of (cond x (verdict.BreachAt a) (cond y verdict.Open (verdict.ClearSince a))) ≡ word_of (cond x (verdict.BreachAt b) (cond y verdict.Open (verdict.ClearSince b)))
    go true y = refl
    go false true = refl
    go false false = refl
next_word release held a b verdict.Open (verdict.BreachAt j) e = cc
next_word release held a b verdict.Open (verdict.ClearSince j) e = cc
next_word release held a b (verdict.BreachAt i) verdict.Open e = cc
next_word release held a b (verdict.BreachAt i) (verdict.BreachAt j) e = refl
next_word release held a b (verdict.BreachAt i) (verdict.ClearSince j) e = cc
next_word release held a b (verdict.ClearSince i) verdict.Open e = cc
next_word release held a b (verdict.ClearSince i) (verdict.BreachAt j) e = cc
next_word release held a b (verdict.ClearSince i) (verdict.ClearSince j) e = refl

-- ---- live states alone

pruned_live : (rule : Rule) (q e t : ℕ) → Pruned rule q e t → Live rule t
pruned_live rule q e t (inl (live, unsafe, (r, step, (l, inl (u, p))))) = subst (Live rule) (sym p) l
pruned_live rule q e t (inl (live, unsafe, (r, step, (l, inr (s, rel))))) = safe_live rule t rel.0
pruned_live rule q e t (inr (rel, p)) = subst (Live rule) (sym p) (safe_live rule q rel.0)

leads_live : (rule : Rule) (trees : List Tree) (held e t : ℕ) → Sound rule trees → e < 64 → t ∈ leads_to trees held e → Live rule t
leads_live rule trees held e t sound low h =
    let (q, l, there, m) = (∈_union 32 held (λ q. gives (tree_of trees q) e) t).0 h in
    pruned_live rule q e t (((sound.serves q l e low).members t).0 m)

-- ---- of a plan

module _ (plan : Plan) where
  pub plan_release : ReleaseSet (plan_rule plan) plan.sets.release
  plan_release = subst (ReleaseSet (plan_rule plan)) (sym plan.release_is) (release_right (plan_rule plan) (draft_well plan.draft))

  -- the numbers of live states are numbers of states
  pub lives_within : (set : ℕ) → ((q : ℕ) → q ∈ set → Live (plan_rule plan) q) → (q : ℕ) → has set q ≡ true → q < length (plan_rule plan).states
  lives_within set lives q h = live_below (plan_rule plan) (draft_well plan.draft) q (lives q (true_T (has set q) h))

  -- what is held after an event are states of the rule
  pub led_within : (held e : ℕ) → e < 64 → (q : ℕ) → has (settled_by plan.sets.release (leads_to (plan_trees plan) held e)) q ≡ true → q < length (plan_rule plan).states
  led_within held e low = lives_within (settled_by plan.sets.release (leads_to (plan_trees plan) held e)) (go (eqb (bit_and (leads_to (plan_trees plan) held e) plan.sets.release) 0))
    where
      go : (b : Bool) → (q : ℕ) → q ∈ cond b (leads_to (plan_trees plan) held e) plan.sets.release → Live (plan_rule plan) q
      go true q h = leads_live (plan_rule plan) (plan_trees plan) held e q (plan_sound plan) low h
      go false q h = release_lives (plan_rule plan) plan.sets.release plan_release q h
