-- Every call has an answer, whatever events come, where safety is decided, the trees serve their states and the start set is at hand.
use Rattle.std.proofs.Common.{◌≡◌, ℕ, zero, suc, ◌+◌, ◌^◌, ◌<◌, ◌≤◌, ◌⊎◌, List, [], ◌∷◌, ◌++◌, length, get_or, refl, subst, inl, inr, le_antisymm, arith}
use Rattle.std.specs.Prelude.{Ok, Err, Result}
use Rattle.std.specs.List.{AllByRecursion}
use Rattle.std.proofs.lemmas.List.{length-append}
use Rattle.std.proofs.lemmas.Bool.{cases_eq, cases_lt}
use Rattle.rules.specs.declared.Verdict.{Verdict}
use Rattle.rules.specs.declared.Verdict.TheVariants as verdict
use Rattle.rules.specs.declared.Word.TheVariants as word
use Rattle.rules.specs.declared.Call.{Call}
use Rattle.rules.specs.declared.Call.TheVariants as call
use Rattle.rules.specs.declared.Refusal.{Refusal}
use Rattle.rules.specs.declared.Refusal.TheVariants as refusal
use Rattle.rules.specs.declared.Answer.{Answer}
use Rattle.rules.specs.declared.Answer.TheVariants as answer
use Rattle.events.specs.Sets.{◌∈◌}
use Rattle.rules.specs.automata.Rules.{Rule, Event}
use Rattle.rules.specs.automata.Runs.{Safe, Ending, NoEnding}
use Rattle.rules.specs.automata.Pruning.{Release}
use Rattle.rules.specs.trees.Trees.{Tree}
use Rattle.rules.specs.watch.Verdicts.{Shows, TellsBreach, TellsNoBreach, Tells, IsBreach, word_of}
use Rattle.rules.specs.watch.Holding.{leads_to, polls_of, Sound, Settled, StartSet, Held, Reads, Next, WatchesFrom, Watches, SafeDecided}
use Rattle.rules.specs.watch.Calls.{limit, Rehearsing, Calls, CallsAll, take_gives, look_gives, rehearsal_gives}
use Rattle.rules.specs.watch.Calls as C
use Rattle.events.proofs.SetLaws.{dec∈, no_member, ∈_below}
use Rattle.rules.proofs.automata.RunLaws.{reaches_ending, safe_reaches_live, safe_below, lowest_of, release_one}
use Rattle.rules.proofs.watch.HeldLaws.{Tracks, Released, Unreleased, held_tracks, empty_no_ending}
use Rattle.rules.proofs.watch.VerdictLaws.{watches_held}
use Rattle.rules.proofs.watch.PromiseLaws.{breach_or_not, watches_tells, take_breached, take_full, take_nothing_waits, take_taken, looked, rehearse_breached, Tried, tried_none, tried_more, rehearse_breach_found, rehearse_not_an_event, rehearse_finished}

-- ---- the held set and the verdict

pub release_decided : (rule : Rule) → SafeDecided rule → ((r : ℕ) × Release rule r) ⊎ ((r : ℕ) → Release rule r → ⊥)
release_decided rule dec = go (lowest_of (Safe rule) dec 32)
  where
    go : ((q : ℕ) × Safe rule q × ((p : ℕ) → p < q → Safe rule p → ⊥)) ⊎ ((p : ℕ) → p < 32 → Safe rule p → ⊥) → ((r : ℕ) × Release rule r) ⊎ ((r : ℕ) → Release rule r → ⊥)
    go (inl (q, h, low)) = inl (q, (h, low))
    go (inr none) = inr (λ r rel. none r (safe_below rule r rel.0) rel.0)

-- the release state is in the set, or none is
pub releases : (rule : Rule) → SafeDecided rule → (set : ℕ) → ((r : ℕ) × Release rule r × (r ∈ set)) ⊎ ((r : ℕ) → Release rule r → r ∈ set → ⊥)
releases rule dec set = go (release_decided rule dec)
  where
    at : (r : ℕ) → Release rule r → (r ∈ set) ⊎ (r ∈ set → ⊥) → ((r : ℕ) × Release rule r × (r ∈ set)) ⊎ ((r : ℕ) → Release rule r → r ∈ set → ⊥)
    at r rel (inl h) = inl (r, rel, h)
    at r rel (inr n) = inr (λ r' rel' h. n (subst (λ (k : ℕ). k ∈ set) (release_one rule r' r rel' rel) h))

    go : ((r : ℕ) × Release rule r) ⊎ ((r : ℕ) → Release rule r → ⊥) → ((r : ℕ) × Release rule r × (r ∈ set)) ⊎ ((r : ℕ) → Release rule r → r ∈ set → ⊥)
    go (inl (r, rel)) = at r rel (dec∈ r set)
    go (inr none) = inr (λ r rel h. none r rel)

pub settled_some : (rule : Rule) → SafeDecided rule → (raw : ℕ) → (set : ℕ) × Settled rule raw set
settled_some rule dec raw = go (releases rule dec raw)
  where
    go : ((r : ℕ) × Release rule r × (r ∈ raw)) ⊎ ((r : ℕ) → Release rule r → r ∈ raw → ⊥) → (set : ℕ) × Settled rule raw set
    go (inl (r, rel, h)) = (2 ^ r, inl (r, rel, h, refl))
    go (inr none) = (raw, inr (none, refl))

reads_some : (rule : Rule) → SafeDecided rule → (count set : ℕ) → (v : Verdict) × Reads rule count set v
reads_some rule dec count set = go (cases_eq set 0) (releases rule dec set)
  where
    go : (set ≡ 0) ⊎ (set ≡ 0 → ⊥) → ((r : ℕ) × Release rule r × (r ∈ set)) ⊎ ((r : ℕ) → Release rule r → r ∈ set → ⊥) → (v : Verdict) × Reads rule count set v
    go (inl z) d = (verdict.BreachAt count, inl (z, refl))
    go (inr nz) (inl h) = (verdict.ClearSince count, inr (inl (h, refl)))
    go (inr nz) (inr none) = (verdict.Open, inr (inr (nz, none, refl)))

pub next_some : (rule : Rule) → SafeDecided rule → (count set : ℕ) (v : Verdict) → (w : Verdict) × Next rule count set v w
next_some rule dec count set verdict.Open = reads_some rule dec count set
next_some rule dec count set (verdict.BreachAt j) = (verdict.BreachAt j, refl)
next_some rule dec count set (verdict.ClearSince i) = (verdict.ClearSince i, refl)

watches_from_some : (rule : Rule) (trees : List Tree) → SafeDecided rule → (es : List ℕ) (count held : ℕ) (v : Verdict) → (set : ℕ) × ((w : Verdict) × WatchesFrom rule trees count held v es set w)
watches_from_some rule trees dec [] count held v = (held, (v, (refl, refl)))
watches_from_some rule trees dec (e ∷ es) count held v =
    let (next, settled) = settled_some rule dec (leads_to trees held e) in
    let (shown, reads) = next_some rule dec (suc count) next v in
    let (set, (w, rest)) = watches_from_some rule trees dec es (suc count) next shown in
    (set, (w, (next, settled, (shown, reads, rest))))

module _ (rule : Rule) (trees : List Tree) (sound : Sound rule trees) (raw : ℕ) (start : StartSet rule raw) where
  pub watches_some : (es : List ℕ) → (set : ℕ) × ((w : Verdict) × Watches rule trees es set w)
  watches_some es =
      let (first, settled) = settled_some rule sound.decided raw in
      let (v, reads) = reads_some rule sound.decided 0 first in
      let (set, (w, rest)) = watches_from_some rule trees sound.decided es 0 first v in
      (set, (w, (raw, start, (first, settled, (v, reads, rest)))))

  pub tells_some : (es : List ℕ) → (v : Verdict) × Tells rule trees es v
  tells_some es = let (set, (w, h)) = watches_some es in (w, watches_tells rule trees sound es set w h)

  pub held_some : (es : List ℕ) → (set : ℕ) × Held rule trees es set
  held_some es = let (set, (w, h)) = watches_some es in (set, watches_held rule trees es set w h)

  pub shows_some : (es : List ℕ) → AllByRecursion (Event rule) es → (v : Verdict) × Shows rule es v
  shows_some es ok = let (v, tells) = tells_some es in (v, tells.shows ok)

  -- whether the events have an ending is decided
  pub ending_decided : (es : List ℕ) → AllByRecursion (Event rule) es → Ending rule es ⊎ NoEnding rule es
  ending_decided es ok = let (set, held) = held_some es in which set (held_tracks rule trees sound.decided sound.serves es set ok held)
    where
      which : (set : ℕ) → Tracks rule es set → Ending rule es ⊎ NoEnding rule es
      which set tracks = go tracks.which
        where
          go : Released rule es set ⊎ Unreleased rule es set → Ending rule es ⊎ NoEnding rule es
          go (inl (safe, x)) = inl (reaches_ending rule es (safe_reaches_live rule es safe))
          go (inr (unsafe, mem)) = at (lowest_of (λ q. q ∈ set) (λ q. dec∈ q set) 32)
            where
              at : ((q : ℕ) × (q ∈ set) × ((p : ℕ) → p < q → p ∈ set → ⊥)) ⊎ ((p : ℕ) → p < 32 → p ∈ set → ⊥) → Ending rule es ⊎ NoEnding rule es
              at (inl (q, h, x)) = let (l, (s, st, run)) = (mem q).0 h in inl (reaches_ending rule es (s, st, (q, run, l)))
              at (inr none) = inr ((empty_no_ending rule es set tracks).0 (no_member 32 set tracks.small (λ k h. none k (∈_below 32 k set tracks.small h) h)))

  pub breach_decided : (es : List ℕ) → TellsBreach rule trees es ⊎ TellsNoBreach rule trees es
  breach_decided es = let (v, tells) = tells_some es in go v tells (breach_or_not v)
    where
      go : (v : Verdict) → Tells rule trees es v → IsBreach v ⊎ (IsBreach v → ⊥) → TellsBreach rule trees es ⊎ TellsNoBreach rule trees es
      go v tells (inl b) = inl (v, tells, b)
      go v tells (inr nb) = inr (v, tells, nb)

  -- ---- take

  abbrev pub Answered : Call → List ℕ → List ℕ → Type 0
  Answered c es coming = (a : Result Answer Refusal) × ((es' : List ℕ) × ((coming' : List ℕ) × (length es' ≤ limit) × Calls rule trees c es coming a es' coming'))

  taking_some : (es coming : List ℕ) → length es ≤ limit → Answered call.Take es coming
  taking_some es coming l = let (held, (v, h)) = watches_some es in go held v h (breach_or_not v) (cases_lt (length es) limit) coming
    where
      go : (held : ℕ) (v : Verdict) → Watches rule trees es held v → IsBreach v ⊎ (IsBreach v → ⊥) → (length es < limit) ⊎ (limit ≤ length es) → (coming : List ℕ) → Answered call.Take es coming
      go held v h (inl b) d coming = (Err refusal.Breached, (es, (coming, l, take_breached rule trees sound es held v h coming b)))
      go held v h (inr nb) (inr full) coming = (Err refusal.Full, (es, (coming, l, take_full rule trees sound es held v h coming nb (le_antisymm l full))))
      go held v h (inr nb) (inl room) [] = (Err refusal.NothingWaits, (es, ([], l, take_nothing_waits rule trees sound es held v h nb room)))
      go held v h (inr nb) (inl room) (e ∷ coming) =
          let (next, settled) = settled_some rule sound.decided (leads_to trees held e) in
          let (w, reads) = next_some rule sound.decided (length es + 1) next v in
          (take_gives w (polls_of trees held e), (es ++ e ∷ [], (coming, omega (arith, length-append es (e ∷ []), room), take_taken rule trees sound es held v h e coming next w nb room settled reads)))

  -- ---- rehearse

  -- n events are still to be tried
  rehearse_from : (es coming tried : List ℕ) (n k held : ℕ) (v : Verdict) → n + k ≡ length tried → Tried rule trees sound es tried k held v → IsBreach v ⊎ (IsBreach v → ⊥)
      → (a : Result Answer Refusal) × Rehearsing rule trees es coming tried a es coming
  rehearse_from es coming tried n k held v split so_far (inl b) = (rehearsal_gives word.Breach k, rehearse_breach_found rule trees sound es tried k held v so_far coming b)
  rehearse_from es coming tried zero k held v split so_far (inr nb) =
      (rehearsal_gives (word_of v) (length tried), rehearse_finished rule trees sound es tried k held v so_far coming nb (omega arith))
  rehearse_from es coming tried (suc n) k held v split so_far (inr nb) = go (cases_lt (get_or tried k 0) 64) (settled_some rule sound.decided (leads_to trees held (get_or tried k 0)))
      (λ next w h. rehearse_from es coming tried n (k + 1) next w (omega arith) h (breach_or_not w))
    where
      go : (get_or tried k 0 < 64) ⊎ (64 ≤ get_or tried k 0) → (next : ℕ) × Settled rule (leads_to trees held (get_or tried k 0)) next
          → ((next : ℕ) (w : Verdict) → Tried rule trees sound es tried (k + 1) next w → (a : Result Answer Refusal) × Rehearsing rule trees es coming tried a es coming)
          → (a : Result Answer Refusal) × Rehearsing rule trees es coming tried a es coming
      go (inl small) (next, settled) more =
          let (w, reads) = next_some rule sound.decided (length es + k + 1) next v in
          more next w (tried_more rule trees sound es tried k held v so_far next w nb (omega arith) small settled reads)
      go (inr above) s more = (Err (refusal.NoEvent k), rehearse_not_an_event rule trees sound es tried k held v so_far coming nb (omega arith) above)

  rehearsing_some : (es coming tried : List ℕ) → (a : Result Answer Refusal) × Rehearsing rule trees es coming tried a es coming
  rehearsing_some es coming tried = let (held, (v, h)) = watches_some es in go held v h (breach_or_not v)
    where
      go : (held : ℕ) (v : Verdict) → Watches rule trees es held v → IsBreach v ⊎ (IsBreach v → ⊥) → (a : Result Answer Refusal) × Rehearsing rule trees es coming tried a es coming
      go held v h (inl b) = (Err refusal.Breached, rehearse_breached rule trees sound es held v h coming tried b)
      go held v h (inr nb) = rehearse_from es coming tried (length tried) 0 held v (omega arith) (tried_none rule trees sound es tried held v h nb) (inr nb)

  -- ---- any call, and any list of calls

  pub calls_some : (c : Call) (es coming : List ℕ) → length es ≤ limit → Answered c es coming
  calls_some call.Take es coming l = taking_some es coming l
  calls_some call.Look es coming l = let (held, (v, h)) = watches_some es in (look_gives v (length es), (es, (coming, l, looked rule trees sound es held v h coming)))
  calls_some (call.Rehearse tried) es coming l = let (a, r) = rehearsing_some es coming tried.now in (a, (es, (coming, l, r)))
  calls_some call.Rearm es coming l = (Ok answer.Armed, ([], (coming, omega arith, C.Rearming.armed)))

  pub calls_all_some : (calls : List Call) (es coming : List ℕ) → length es ≤ limit
      → (answers : List (Result Answer Refusal)) × ((es' : List ℕ) × ((coming' : List ℕ) × CallsAll rule trees calls es coming answers es' coming'))
  calls_all_some [] es coming l = ([], (es, (coming, C.CallsAll.no_more)))
  calls_all_some (c ∷ calls) es coming l =
      let (a, (es₁, (coming₁, l₁, x))) = calls_some c es coming l in
      let (answers, (es', (coming', xs))) = calls_all_some calls es₁ coming₁ l₁ in
      (a ∷ answers, (es', (coming', C.CallsAll.one_more x xs)))
