-- A rehearsal, event by event: what the trial holds and shows after each, and what each way out answers.
use Rattle.std.proofs.Common.{◌≡◌, ℕ, ◌+◌, ◌<◌, ◌≤◌, true, ◌⊎◌, List, [], ◌∷◌, length, get_or, sym, refl, ap, ◌∙◌, subst, Bor, le_antisymm}
use Rattle.std.specs.Prelude.{Err, Result}
use Rattle.std.proofs.lemmas.Bool.{lt-ltb}
use Rattle.events.specs.Sets.{has}
use Rattle.rules.specs.declared.Snapshot.{Snapshot}
use Rattle.rules.specs.declared.Verdict.{Verdict}
use Rattle.rules.specs.declared.Verdict.TheVariants as verdict
use Rattle.rules.specs.declared.Word.{Word}
use Rattle.rules.specs.declared.Word.TheVariants as word
use Rattle.rules.specs.declared.Call.TheVariants as call
use Rattle.rules.specs.declared.Refusal.{Refusal}
use Rattle.rules.specs.declared.Refusal.TheVariants as refusal
use Rattle.rules.specs.declared.Answer.{Answer}
use Rattle.rules.specs.watch.Calls.{Rehearsing, rehearsal_gives}
use Rattle.rules.specs.watch.Verdicts.{IsBreach, word_of}
use Rattle.rules.specs.watch.Holding.{leads_to}
use Rattle.rules.specs.watch.Promises.{After}
use Rattle.rules.proofs.watch.CalledLaws.{Rehearsed, rehearsed_none, rehearsed_more, rehearsed_breached, rehearsed_breach_found, rehearsed_not_an_event, rehearsed_finished, called_rehearse}
use Rattle.sources.specs.PlainLogs.{log_from, plain_events}
use Rattle.sources.specs.Waiting.{any_waiting}
use Rattle.fitting.specs.declared.plan.Plan.{Plan}
use Rattle.fitting.specs.Plans.{plan_rule, plan_trees}
use Rattle.fitting.proofs.PlanLaws.{plan_sound}
use Rattle.watch.specs.Polling.{head_of}
use Rattle.watch.specs.Steps.{settled_by, next_by, stepped_by}
use Rattle.watch.specs.Watching.{CalledOn}
use Rattle.watch.proofs.StepLaws.{settled_by_lem, next_by_lem, next_word, plan_release, led_within}

-- the word says whether a breach stands
pub breach_word : (v : Verdict) → IsBreach v → word_of v ≡ word.Breach
breach_word v (j, e) = ap word_of e

pub word_breach : (v : Verdict) → word_of v ≡ word.Breach → IsBreach v
word_breach verdict.Open e = absurd cc
word_breach (verdict.BreachAt j) e = (j, refl)
word_breach (verdict.ClearSince i) e = absurd cc

-- the verdict is no BREACH
abbrev pub Unbroken : Verdict → Type 0
Unbroken v = (j : ℕ) → v ≡ verdict.BreachAt j → ⊥

-- as it is where it is OPEN or CLEAR
pub unbroken : (v : Verdict) → (v ≡ verdict.Open) ⊎ ((i : ℕ) × (v ≡ verdict.ClearSince i)) → Unbroken v
unbroken v h j e = Rattle.watch.proofs.TakeLaws.lasts v h (j, e)

-- after the first k events tried of a watch that kept s, the trial keeps t: it holds what the watch would hold, and its verdict has the right word
pub record Trial (plan : Plan) (s : Snapshot) (tried : List ℕ) (k : ℕ) (t : Snapshot) : Type 0 where
  pub shown : Verdict
  pub stands : Rehearsed (plan_rule plan) (plan_trees plan) (plan_sound plan) s tried k t.held shown
  pub worded : word_of shown ≡ word_of t.verdict
  pub states : (q : ℕ) → has t.held q ≡ true → q < length (plan_rule plan).states

module _ (plan : Plan) (s : Snapshot) where
  pub trial_none : (tried : List ℕ) → (s.verdict ≡ verdict.Open) ⊎ ((i : ℕ) × (s.verdict ≡ verdict.ClearSince i)) → ((q : ℕ) → has s.held q ≡ true → q < length (plan_rule plan).states) → Trial plan s tried 0 s
  trial_none tried unbroken states = record {
    shown = s.verdict;
    stands = rehearsed_none (plan_rule plan) (plan_trees plan) (plan_sound plan) s tried (Rattle.watch.proofs.TakeLaws.lasts s.verdict unbroken);
    worded = refl;
    states = states;
  }

  module _ (tried : List ℕ) (k : ℕ) (t : Snapshot) (so_far : Trial plan s tried k t) where
    lasts : Unbroken t.verdict → IsBreach so_far.shown → ⊥
    lasts nb b = let (j, e) = word_breach t.verdict (sym so_far.worded ∙ breach_word so_far.shown b) in nb j e

    pub trial_more : (t' : Snapshot) → Unbroken t.verdict → k < length tried → get_or tried k 0 < 64
        → t' ≡ stepped_by plan.sets.release (leads_to (plan_trees plan) t.held (get_or tried k 0)) t.count t → Trial plan s tried (k + 1) t'
    trial_more t' nb more low is = subst (Trial plan s tried (k + 1)) (sym is) (record {
      shown = next_by plan.sets.release (s.count + k + 1) next so_far.shown;
      stands = rehearsed_more (plan_rule plan) (plan_trees plan) (plan_sound plan) s tried k t.held so_far.shown raw next (next_by plan.sets.release (s.count + k + 1) next so_far.shown)
          so_far.stands (lasts nb) more low refl (settled_by_lem (plan_rule plan) plan.sets.release (plan_release plan) raw)
          (next_by_lem (plan_rule plan) plan.sets.release (plan_release plan) (s.count + k + 1) next so_far.shown);
      worded = next_word plan.sets.release next (s.count + k + 1) t.count so_far.shown t.verdict so_far.worded;
      states = led_within plan t.held (get_or tried k 0) low;
    })
      where
        raw : ℕ
        raw = leads_to (plan_trees plan) t.held (get_or tried k 0)

        next : ℕ
        next = settled_by plan.sets.release raw

  -- ---- the ways out

  module _ (r : Bor (List ℕ)) (coming : List ℕ) where
    -- a rehearsal leaves the watch and its source as they were
    called : (a : Result Answer Refusal) → ((es : List ℕ) → After (plan_rule plan) (plan_trees plan) es s → Rehearsing (plan_rule plan) (plan_trees plan) es coming r.now a es coming)
        → CalledOn plan (call.Rehearse r) s coming a s coming
    unfolding CalledOn
    called = called_rehearse (plan_rule plan) (plan_trees plan) (plan_sound plan) s r coming

    pub trial_refused : (j : ℕ) → s.verdict ≡ verdict.BreachAt j → CalledOn plan (call.Rehearse r) s coming (Err refusal.Breached) s coming
    unfolding CalledOn
    trial_refused j b = called (Err refusal.Breached) (rehearsed_breached (plan_rule plan) (plan_trees plan) (plan_sound plan) s r.now coming (j, b))

    -- the watch is then as it was
    module _ (k : ℕ) (t s' : Snapshot) (back : s' ≡ s) (so_far : Trial plan s r.now k t) where
      put_back : (a : Result Answer Refusal) → ((es : List ℕ) → After (plan_rule plan) (plan_trees plan) es s → Rehearsing (plan_rule plan) (plan_trees plan) es coming r.now a es coming)
          → CalledOn plan (call.Rehearse r) s coming a s' coming
      put_back a rehearsing = subst (λ (u : Snapshot). CalledOn plan (call.Rehearse r) s coming a u coming) (sym back) (called a rehearsing)

      pub trial_breach : (j : ℕ) → t.verdict ≡ verdict.BreachAt j → CalledOn plan (call.Rehearse r) s coming (rehearsal_gives word.Breach k) s' coming
      trial_breach j b = put_back (rehearsal_gives word.Breach k) (rehearsed_breach_found (plan_rule plan) (plan_trees plan) (plan_sound plan) s r.now coming k t.held so_far.shown so_far.stands
          (word_breach so_far.shown (so_far.worded ∙ ap word_of b)))

      pub trial_no_event : Unbroken t.verdict → k < length r.now → 64 ≤ get_or r.now k 0 → CalledOn plan (call.Rehearse r) s coming (Err (refusal.NoEvent k)) s' coming
      trial_no_event nb more above = put_back (Err (refusal.NoEvent k))
          (rehearsed_not_an_event (plan_rule plan) (plan_trees plan) (plan_sound plan) s r.now coming k t.held so_far.shown so_far.stands (lasts r.now k t so_far nb) more above)

      pub trial_all : (w : Word) → Unbroken t.verdict → k ≤ length r.now → length r.now ≤ k → w ≡ word_of t.verdict → CalledOn plan (call.Rehearse r) s coming (rehearsal_gives w (length r.now)) s' coming
      trial_all w nb within all is = subst (λ (x : Word). CalledOn plan (call.Rehearse r) s coming (rehearsal_gives x (length r.now)) s' coming) (so_far.worded ∙ sym is)
          (put_back (rehearsal_gives (word_of so_far.shown) (length r.now))
          (rehearsed_finished (plan_rule plan) (plan_trees plan) (plan_sound plan) s r.now coming k t.held so_far.shown so_far.stands (lasts r.now k t so_far nb) (le_antisymm within all)))

-- ---- one event tried

-- the log of one event
pub one_log : (e : ℕ) → e < 64 → plain_events (e ∷ []) ≡ e ∷ []
unfolding log_from
one_log e low = let a = lt-ltb e 64 low in rw a

-- its event waits, and is the one that is polled
pub one_waits : (e : ℕ) (events : List ℕ) → e < 64 → events ≡ plain_events (e ∷ []) → any_waiting events ≡ true
one_waits e events low is = ap any_waiting (is ∙ one_log e low)

pub one_head : (e : ℕ) (events : List ℕ) → e < 64 → events ≡ plain_events (e ∷ []) → head_of events ≡ e
one_head e events low is = ap head_of (is ∙ one_log e low)
