-- From local facts to the whole promise: what a watch keeps when it is armed and when it takes an event, and from that what each call answers.
use Rattle.std.proofs.Common.{◌≡◌, ℕ, suc, ◌+◌, ◌^◌, ◌<◌, ◌≤◌, ◌⊎◌, List, [], ◌∷◌, ◌++◌, length, get_or, take, sym, refl, ap, ◌∙◌, subst, inl, inr, append_assoc, append-nil, le_refl, not-suc-le-zero, arith}
use Rattle.std.specs.Prelude.{Ok, Err, Result}
use lib.Bits.{bit_and}
use Rattle.std.specs.List.{AllByRecursion}
use Rattle.std.proofs.lemmas.List.{take_more, take_all, length-append, length-take-le}
use Rattle.std.proofs.lemmas.Bool.{cases_eq, cases_lt}
use Rattle.rules.specs.declared.Verdict.{Verdict}
use Rattle.rules.specs.declared.Verdict.TheVariants as verdict
use Rattle.rules.specs.declared.Word.TheVariants as word
use Rattle.rules.specs.declared.Call.{Call}
use Rattle.rules.specs.declared.Refusal.{Refusal}
use Rattle.rules.specs.declared.Refusal.TheVariants as refusal
use Rattle.rules.specs.declared.Answer.{Answer}
use Rattle.rules.specs.declared.Answer.TheVariants as answer
use Rattle.events.specs.Sets.{◌∈◌}
use Rattle.rules.specs.automata.Rules.{Rule, Event, WellFormed}
use Rattle.rules.specs.automata.Runs.{ReachesSafe}
use Rattle.rules.specs.automata.Pruning.{Release}
use Rattle.rules.specs.trees.Trees.{Tree, leaf, polls, Serves}
use Rattle.rules.specs.trees.Costs.{Price}
use Rattle.rules.specs.watch.Verdicts.{Tells, IsBreach, TellsNoBreach, word_of}
use Rattle.rules.specs.watch.Holding.{tree_of, leads_to, polls_of, Sound, Settled, ReleaseSet, StartSet, Reads, Next, Watches, SafeDecided}
use Rattle.rules.specs.watch.Calls.{limit, Taking, Looking, TriedBefore, Rehearsing, Rearming, Calls, CallsAll, take_gives, look_gives, rehearsal_gives}
use Rattle.rules.specs.watch.Calls as C
use Rattle.rules.specs.watch.Promises.{FittedAll, Promise}
use Rattle.events.proofs.SetLaws.{and_one}
use Rattle.rules.proofs.automata.RunLaws.{all_++, safe_live, release_one}
use Rattle.rules.proofs.automata.RuleLaws.{live_below, past_dead}
use Rattle.rules.proofs.watch.HeldLaws.{Released, Unreleased}
use Rattle.rules.proofs.watch.VerdictLaws.{is_breach, safe_later, watch_shows, watches_held}
use Rattle.rules.proofs.watch.WatchLaws.{watches_more, dead_serves, release_polls, released_polls_nothing}

-- ---- a fitted rule is sound

pub fitted_sound : (price : Price) (rule : Rule) (trees : List Tree) (costs : List ℕ) → WellFormed rule → SafeDecided rule → FittedAll price rule trees costs → Sound rule trees
fitted_sound price rule trees costs well decided fit = record { decided = decided; serves = λ q l. go q (cases_lt q (length rule.states)) }
  where
    go : (q : ℕ) → (q < length rule.states) ⊎ (length rule.states ≤ q) → Serves rule q (tree_of trees q)
    go q (inl l) = (fit.fitted q l).serves
    go q (inr past) = subst (Serves rule q) (sym (past_tree q past)) (dead_serves rule q (past_dead rule well q past))
      where
        past_tree : (q : ℕ) → length rule.states ≤ q → tree_of trees q ≡ leaf 0
        past_tree q past = lib.ListN.get_or-eq_default trees (leaf 0) (omega (arith, fit.a_tree_each, past))

-- ---- once CLEAR, takes poll nothing

fitted_release : (price : Price) (rule : Rule) (trees : List Tree) (costs : List ℕ) → WellFormed rule → FittedAll price rule trees costs → (r e : ℕ) → Release rule r → polls (tree_of trees r) e ≡ 0
fitted_release price rule trees costs well fit r e rel =
    let best = (fit.fitted r (live_below rule well r (safe_live rule r rel.0))).is_best in
    release_polls rule r best.wants best.line (tree_of trees r) rel best.wanted best.tree e

pub clear_polls_nothing : (price : Price) (rule : Rule) (trees : List Tree) (costs : List ℕ) → WellFormed rule → SafeDecided rule → FittedAll price rule trees costs
    → (es : List ℕ) (held i e : ℕ) → AllByRecursion (Event rule) es → Watches rule trees es held (verdict.ClearSince i) → polls_of trees held e ≡ 0
clear_polls_nothing price rule trees costs well decided fit es held i e ok watches =
    let sound = fitted_sound price rule trees costs well decided fit in
    let (tracks, shows) = watch_shows rule trees decided sound.serves es held (verdict.ClearSince i) ok watches in
    go (safe_later rule i es ok ((shows.clear i).0 refl).holds) tracks.which
  where
    go : ReachesSafe rule es → Released rule es held ⊎ Unreleased rule es held → polls_of trees held e ≡ 0
    go safe (inl released) = released_polls_nothing rule trees es held e released (λ r rel. fitted_release price rule trees costs well fit r e rel)
    go safe (inr (unsafe, x)) = absurd (unsafe safe)

-- ---- the release state's set as a test

module _ (rule : Rule) (release : ℕ) (is : ReleaseSet rule release) where
  release_in : (set : ℕ) → (bit_and set release ≡ 0 → ⊥) → (r : ℕ) × Release rule r × (r ∈ set) × (release ≡ 2 ^ r)
  release_in set some = go is
    where
      go : ((r : ℕ) × Release rule r × (release ≡ 2 ^ r)) ⊎ (((r : ℕ) → Release rule r → ⊥) × (release ≡ 0)) → (r : ℕ) × Release rule r × (r ∈ set) × (release ≡ 2 ^ r)
      go (inl (r, rel, e)) = (r, rel, (and_one set r).1 (λ z. some (ap (λ (n : ℕ). bit_and set n) e ∙ z)), e)
      go (inr (none, e)) = absurd (some (ap (λ (n : ℕ). bit_and set n) e ∙ lib.Bits.and_zero_r set))

  release_out : (set : ℕ) → bit_and set release ≡ 0 → (r : ℕ) → Release rule r → r ∈ set → ⊥
  release_out set none r rel h = go is
    where
      go : ((r : ℕ) × Release rule r × (release ≡ 2 ^ r)) ⊎ (((r : ℕ) → Release rule r → ⊥) × (release ≡ 0)) → ⊥
      go (inl (r', rel', e)) = (and_one set r).0 h (ap (λ (n : ℕ). bit_and set n) (ap (λ (n : ℕ). 2 ^ n) (release_one rule r r' rel rel') ∙ sym e) ∙ none)
      go (inr (no_release, e)) = no_release r rel

  pub settled_open : (raw : ℕ) → bit_and raw release ≡ 0 → Settled rule raw raw
  settled_open raw none = inr (release_out raw none, refl)

  pub settled_released : (raw : ℕ) → (bit_and raw release ≡ 0 → ⊥) → Settled rule raw release
  settled_released raw some = inl (release_in raw some)

  pub reads_breach : (count : ℕ) → Reads rule count 0 (verdict.BreachAt count)
  reads_breach count = inl (refl, refl)

  pub reads_clear : (count set : ℕ) → (bit_and set release ≡ 0 → ⊥) → Reads rule count set (verdict.ClearSince count)
  reads_clear count set some = let (r, rel, h, e) = release_in set some in inr (inl ((r, rel, h), refl))

  pub reads_open : (count set : ℕ) → (set ≡ 0 → ⊥) → bit_and set release ≡ 0 → Reads rule count set verdict.Open
  reads_open count set some none = inr (inr (some, release_out set none, refl))

-- the verdict after one event more: OPEN is read anew, and any other stays
pub next_open : (rule : Rule) (count set : ℕ) (v w : Verdict) → v ≡ verdict.Open → Reads rule count set w → Next rule count set v w
next_open rule count set v w e reads = subst (λ (u : Verdict). Next rule count set u w) (sym e) reads

pub next_breach : (rule : Rule) (count set : ℕ) (v : Verdict) (j : ℕ) → v ≡ verdict.BreachAt j → Next rule count set v (verdict.BreachAt j)
next_breach rule count set v j e = subst (λ (u : Verdict). Next rule count set u (verdict.BreachAt j)) (sym e) refl

pub next_clear : (rule : Rule) (count set : ℕ) (v : Verdict) (i : ℕ) → v ≡ verdict.ClearSince i → Next rule count set v (verdict.ClearSince i)
next_clear rule count set v i e = subst (λ (u : Verdict). Next rule count set u (verdict.ClearSince i)) (sym e) refl

-- ---- what a watch keeps

-- newly armed
pub armed : (rule : Rule) (trees : List Tree) (raw held : ℕ) (v : Verdict) → StartSet rule raw → Settled rule raw held → Reads rule 0 held v → Watches rule trees [] held v
armed rule trees raw held v start settled reads = (raw, start, (held, settled, (v, reads, (refl, refl))))

-- after one event more
pub taken : (rule : Rule) (trees : List Tree) (es : List ℕ) (held : ℕ) (v : Verdict) (e next : ℕ) (w : Verdict) → Watches rule trees es held v
    → Settled rule (leads_to trees held e) next → Next rule (length es + 1) next v w → Watches rule trees (es ++ e ∷ []) next w
taken rule trees es held v e next w watches settled now =
    watches_more rule trees es held e next v w watches settled (subst (λ (n : ℕ). Next rule n next v w) count now)
  where
    count : length es + 1 ≡ suc (length es)
    count = omega arith

pub breach_or_not : (v : Verdict) → IsBreach v ⊎ (IsBreach v → ⊥)
breach_or_not verdict.Open = inr (λ (j, e). is_breach verdict.Open j e)
breach_or_not (verdict.BreachAt j) = inl (j, refl)
breach_or_not (verdict.ClearSince i) = inr (λ (j, e). is_breach (verdict.ClearSince i) j e)

module _ (rule : Rule) (trees : List Tree) (sound : Sound rule trees) where
  -- what it keeps gives what it tells
  pub watches_tells : (es : List ℕ) (held : ℕ) (v : Verdict) → Watches rule trees es held v → Tells rule trees es v
  watches_tells es held v watches = record { shows = λ ok. (watch_shows rule trees sound.decided sound.serves es held v ok watches).1 }

  -- ---- take

  module _ (es : List ℕ) (held : ℕ) (v : Verdict) (watches : Watches rule trees es held v) where
    no_breach : (IsBreach v → ⊥) → TellsNoBreach rule trees es
    no_breach nb = (v, watches_tells es held v watches, nb)

    pub take_breached : (coming : List ℕ) → IsBreach v → Taking rule trees es coming (Err refusal.Breached) es coming
    take_breached coming b = C.Taking.breached (v, watches_tells es held v watches, b)

    pub take_full : (coming : List ℕ) → (IsBreach v → ⊥) → length es ≡ limit → Taking rule trees es coming (Err refusal.Full) es coming
    take_full coming nb full = C.Taking.full (no_breach nb) full

    pub take_nothing_waits : (IsBreach v → ⊥) → length es < limit → Taking rule trees es [] (Err refusal.NothingWaits) es []
    take_nothing_waits nb room = C.Taking.nothing_waits (no_breach nb) room refl

    pub take_taken : (e : ℕ) (later : List ℕ) (next : ℕ) (w : Verdict) → (IsBreach v → ⊥) → length es < limit
        → Settled rule (leads_to trees held e) next → Next rule (length es + 1) next v w
        → Taking rule trees es (e ∷ later) (take_gives w (polls_of trees held e)) (es ++ e ∷ []) later
    take_taken e later next w nb room settled now = C.Taking.taken e later w (polls_of trees held e) (no_breach nb) room refl
        (watches_tells (es ++ e ∷ []) next w (taken rule trees es held v e next w watches settled now))
        (held, watches_held rule trees es held v watches, refl)

    -- ---- look

    pub looked : (coming : List ℕ) → Looking rule trees es coming (look_gives v (length es)) es coming
    looked coming = C.Looking.shown v (watches_tells es held v watches)

    pub rehearse_breached : (coming tried : List ℕ) → IsBreach v → Rehearsing rule trees es coming tried (Err refusal.Breached) es coming
    rehearse_breached coming tried b = C.Rehearsing.breached (v, watches_tells es held v watches, b)

  -- ---- rehearse

  -- after the first k events of a rehearsal, with the set and the verdict then
  pub record Tried (es tried : List ℕ) (k held : ℕ) (v : Verdict) : Type 0 where
    pub began : TellsNoBreach rule trees es
    pub before : TriedBefore rule trees es tried k
    pub watches : Watches rule trees (es ++ take k tried) held v

  pub tried_none : (es tried : List ℕ) (held : ℕ) (v : Verdict) → Watches rule trees es held v → (IsBreach v → ⊥) → Tried es tried 0 held v
  tried_none es tried held v watches nb = record {
    began = (v, watches_tells es held v watches, nb);
    before = record { within = omega arith; events = tt; lasts = λ j l. absurd (not-suc-le-zero l) };
    watches = subst (λ (l : List ℕ). Watches rule trees l held v) (sym (append-nil es)) watches;
  }

  module _ (es tried : List ℕ) (k held : ℕ) (v : Verdict) (so_far : Tried es tried k held v) where
    tells_now : Tells rule trees (es ++ take k tried) v
    tells_now = watches_tells (es ++ take k tried) held v so_far.watches

    pub tried_more : (next : ℕ) (w : Verdict) → (IsBreach v → ⊥) → k < length tried → get_or tried k 0 < 64
        → Settled rule (leads_to trees held (get_or tried k 0)) next → Next rule (length es + k + 1) next v w → Tried es tried (k + 1) next w
    tried_more next w nb more small settled now = record {
      began = so_far.began;
      before = record {
        within = omega arith;
        events = subst (AllByRecursion (λ e. e < 64)) (sym longer) (all_++ (λ e. e < 64) (take k tried) (get_or tried k 0 ∷ []) so_far.before.events (small, tt));
        lasts = λ j l. at j l (cases_eq j k);
      };
      watches = subst (λ (l : List ℕ). Watches rule trees l next w) (append_assoc es (take k tried) (get_or tried k 0 ∷ []) ∙ ap (λ (l : List ℕ). es ++ l) (sym longer))
          (taken rule trees (es ++ take k tried) held v (get_or tried k 0) next w so_far.watches settled (subst (λ (n : ℕ). Next rule n next v w) count now));
    }
      where
        longer : take (k + 1) tried ≡ take k tried ++ get_or tried k 0 ∷ []
        longer = take_more tried k 0 more

        count : length es + k + 1 ≡ length (es ++ take k tried) + 1
        count = omega (arith, length-append es (take k tried), length-take-le k tried so_far.before.within)

        at : (j : ℕ) → j < k + 1 → (j ≡ k) ⊎ (j ≡ k → ⊥) → TellsNoBreach rule trees (es ++ take j tried)
        at j l (inl e) = subst (λ (n : ℕ). TellsNoBreach rule trees (es ++ take n tried)) (sym e) (v, tells_now, nb)
        at j l (inr ne) = so_far.before.lasts j (omega arith)

    pub rehearse_breach_found : (coming : List ℕ) → IsBreach v → Rehearsing rule trees es coming tried (rehearsal_gives word.Breach k) es coming
    rehearse_breach_found coming b = C.Rehearsing.breach_found k so_far.began so_far.before (v, tells_now, b)

    pub rehearse_not_an_event : (coming : List ℕ) → (IsBreach v → ⊥) → k < length tried → 63 < get_or tried k 0
        → Rehearsing rule trees es coming tried (Err (refusal.NoEvent k)) es coming
    rehearse_not_an_event coming nb more above = C.Rehearsing.not_an_event k so_far.began so_far.before (v, tells_now, nb) more above

    pub rehearse_finished : (coming : List ℕ) → (IsBreach v → ⊥) → k ≡ length tried → Rehearsing rule trees es coming tried (rehearsal_gives (word_of v) (length tried)) es coming
    rehearse_finished coming nb all = C.Rehearsing.finished v so_far.began (subst (TriedBefore rule trees es tried) all so_far.before) (v, tells, nb) tells
      where
        tells : Tells rule trees (es ++ tried) v
        tells = subst (λ (l : List ℕ). Tells rule trees (es ++ l) v) (ap (λ (n : ℕ). take n tried) all ∙ take_all (length tried) tried (le_refl (length tried))) tells_now

-- ---- rearm

pub rearmed : (coming : List ℕ) → Rearming coming (Ok answer.Armed) [] coming
rearmed coming = C.Rearming.armed

-- ---- one call after the others

pub calls_more : (rule : Rule) (trees : List Tree) (calls : List Call) (c : Call) (es coming : List ℕ) (answers : List (Result Answer Refusal)) (a : Result Answer Refusal) (es₁ coming₁ es' coming' : List ℕ)
    → CallsAll rule trees calls es coming answers es₁ coming₁ → Calls rule trees c es₁ coming₁ a es' coming'
    → CallsAll rule trees (calls ++ c ∷ []) es coming (answers ++ a ∷ []) es' coming'
calls_more rule trees [] c es coming answers a es₁ coming₁ es' coming' C.CallsAll.no_more x = C.CallsAll.one_more x C.CallsAll.no_more
calls_more rule trees (d ∷ calls) c es coming answers a es₁ coming₁ es' coming' (C.CallsAll.one_more {answers = rest} {es₁ = e₂} {coming₁ = c₂} y ys) x =
    C.CallsAll.one_more y (calls_more rule trees calls c e₂ c₂ rest a es₁ coming₁ es' coming' ys x)

-- the same over the first k calls and answers of two lists
pub calls_next : (rule : Rule) (trees : List Tree) (calls : List Call) (answers : List (Result Answer Refusal)) (k : ℕ) (c : Call) (a : Result Answer Refusal) (coming es₁ coming₁ es' coming' : List ℕ)
    → k < length calls → k < length answers → CallsAll rule trees (take k calls) [] coming (take k answers) es₁ coming₁
    → Calls rule trees (get_or calls k c) es₁ coming₁ (get_or answers k a) es' coming' → CallsAll rule trees (take (k + 1) calls) [] coming (take (k + 1) answers) es' coming'
calls_next rule trees calls answers k c a coming es₁ coming₁ es' coming' lc la all x =
    subst (λ (l : List Call). CallsAll rule trees l [] coming (take (k + 1) answers) es' coming') (sym (take_more calls k c lc))
    (subst (λ (l : List (Result Answer Refusal)). CallsAll rule trees (take k calls ++ get_or calls k c ∷ []) [] coming l es' coming') (sym (take_more answers k a la))
    (calls_more rule trees (take k calls) (get_or calls k c) [] coming (take k answers) (get_or answers k a) es₁ coming₁ es' coming' all x))

-- ---- the whole promise

pub promise : (price : Price) (rule : Rule) (trees : List Tree) (costs : List ℕ) (calls : List Call) (coming : List ℕ) (answers : List (Result Answer Refusal)) (taken left : List ℕ)
    → FittedAll price rule trees costs → CallsAll rule trees calls [] coming answers taken left → Promise price rule trees costs calls coming answers left
promise price rule trees costs calls coming answers taken left fit all = record { fit = fit; taken = taken; answered = all }
