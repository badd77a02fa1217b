-- The verdict that the held sets give, one event after the other, is the one to be shown.
use Rattle.std.proofs.Common.{◌≡◌, ℕ, zero, suc, ◌<◌, ◌≤◌, ◌⊎◌, ◌↔◌, List, [], ◌∷◌, ◌++◌, length, take, drop, sym, refl, ap, subst, inl, inr, append_assoc, append-nil, le_refl, not-suc-le-zero, arith, take-append-drop}
use Rattle.std.proofs.lemmas.List.{take-append-le, take_all, length-append}
use Rattle.std.proofs.lemmas.Bool.{cases_order}
use Rattle.std.specs.List.{AllByRecursion}
use Rattle.rules.specs.declared.Verdict.{Verdict}
use Rattle.rules.specs.declared.Verdict.TheVariants as verdict
use Rattle.events.specs.Sets.{◌∈◌}
use Rattle.rules.specs.automata.Rules.{Rule, Event}
use Rattle.rules.specs.automata.Runs.{Ending, Live, Reaches, ReachesSafe, NoEnding}
use Rattle.rules.specs.trees.Trees.{Tree}
use Rattle.rules.specs.watch.Verdicts.{First, Shows, IsBreach, TellsBreach, TellsNoBreach}
use Rattle.rules.specs.Theorems.{SetSays}
use Rattle.rules.specs.watch.Holding.{WatchesFrom, Watches, Reads, Next, HeldFrom, Held, SafeDecided}
use Rattle.rules.proofs.automata.RunLaws.{all_left, all_right, all_++, no_ending_more, safe_more, safe_ending}
use Rattle.rules.proofs.watch.HeldLaws.{Released, Unreleased, Tracks, AllServe, tracks_start, tracks_step, held_tracks, empty_no_ending, release_reaches_safe}

-- ---- the first count at which something holds

pub first_one : (P : List ℕ → Type 0) (es : List ℕ) (i j : ℕ) → First P es i → First P es j → i ≡ j
first_one P es i j f g = go (cases_order i j)
  where
    go : (i ≡ j) ⊎ ((i < j) ⊎ (j < i)) → i ≡ j
    go (inl e) = e
    go (inr (inl l)) = absurd (g.before i l f.holds)
    go (inr (inr l)) = absurd (f.before j l g.holds)

pub first_more : (P : List ℕ → Type 0) (es more : List ℕ) (j : ℕ) → First P es j → First P (es ++ more) j
first_more P es more j f = record {
  within = omega (arith, length-append es more, f.within);
  holds = subst P (sym (take-append-le j es more f.within)) f.holds;
  before = λ k l h. f.before k l (subst P (take-append-le k es more (omega (arith, f.within))) h);
}

-- with no first count there is none at all
pub no_first : (P : List ℕ → Type 0) (es : List ℕ) → ((j : ℕ) → First P es j → ⊥) → P es → ⊥
no_first P es none h = upto (suc (length es)) (length es) (le_refl (suc (length es))) (le_refl (length es)) (subst P (sym (take_all (length es) es (le_refl (length es)))) h)
  where
    upto : (n k : ℕ) → k < n → k ≤ length es → P (take k es) → ⊥
    upto zero k l w h = absurd (not-suc-le-zero l)
    upto (suc n) k l w h = none k (record { within = w; holds = h; before = λ i il ih. upto n i (omega arith) (omega arith) ih })

-- ---- counts of events kept

pub all_take : {A : Type 0} (P : A → Type 0) (k : ℕ) (xs : List A) → AllByRecursion P xs → AllByRecursion P (take k xs)
all_take P k xs h = all_left P (take k xs) (drop k xs) (subst (AllByRecursion P) (sym (take-append-drop k xs)) h)

pub all_drop : {A : Type 0} (P : A → Type 0) (k : ℕ) (xs : List A) → AllByRecursion P xs → AllByRecursion P (drop k xs)
all_drop P k xs h = all_right P (take k xs) (drop k xs) (subst (AllByRecursion P) (sym (take-append-drop k xs)) h)

pub no_ending_later : (rule : Rule) (k : ℕ) (es : List ℕ) → AllByRecursion (Event rule) es → NoEnding rule (take k es) → NoEnding rule es
no_ending_later rule k es ok n = subst (NoEnding rule) (take-append-drop k es) (no_ending_more rule (take k es) (drop k es) (all_drop (Event rule) k es ok) n)

pub safe_later : (rule : Rule) (k : ℕ) (es : List ℕ) → AllByRecursion (Event rule) es → ReachesSafe rule (take k es) → ReachesSafe rule es
safe_later rule k es ok h = subst (ReachesSafe rule) (take-append-drop k es) (safe_more rule (take k es) (drop k es) (all_drop (Event rule) k es ok) h)

-- a safe state reached after the first k events leaves an ending at all of them
pub safe_now : (rule : Rule) (k : ℕ) (es : List ℕ) → AllByRecursion (Event rule) es → ReachesSafe rule (take k es) → Ending rule es
safe_now rule k es ok h = subst (Ending rule) (take-append-drop k es) (safe_ending rule (take k es) (drop k es) (all_drop (Event rule) k es ok) h)

-- ---- the three verdicts

-- what it says of a verdict that it is BREACH at j, or CLEAR since i
abbrev pub BreachIs : Verdict → ℕ → Type 0
BreachIs verdict.Open j = ⊥
BreachIs (verdict.BreachAt k) j = k ≡ j
BreachIs (verdict.ClearSince k) j = ⊥

abbrev pub ClearIs : Verdict → ℕ → Type 0
ClearIs verdict.Open i = ⊥
ClearIs (verdict.BreachAt k) i = ⊥
ClearIs (verdict.ClearSince k) i = k ≡ i

pub is_breach : (v : Verdict) (j : ℕ) → v ≡ verdict.BreachAt j → BreachIs v j
is_breach v j e = subst (λ (w : Verdict). BreachIs w j) (sym e) refl

pub is_clear : (v : Verdict) (i : ℕ) → v ≡ verdict.ClearSince i → ClearIs v i
is_clear v i e = subst (λ (w : Verdict). ClearIs w i) (sym e) refl

pub shows_open : (rule : Rule) (es : List ℕ) → AllByRecursion (Event rule) es → (NoEnding rule es → ⊥) → (ReachesSafe rule es → ⊥) → Shows rule es verdict.Open
shows_open rule es ok lasts unsafe = record {
  breach = λ j. ((λ e. absurd (is_breach verdict.Open j e)), (λ f. absurd (lasts (no_ending_later rule j es ok f.holds))));
  clear = λ i. ((λ e. absurd (is_clear verdict.Open i e)), (λ f. absurd (unsafe (safe_later rule i es ok f.holds))));
  kept = λ i e. absurd (is_clear verdict.Open i e);
}

pub shows_breach : (rule : Rule) (es : List ℕ) (j : ℕ) → AllByRecursion (Event rule) es → First (NoEnding rule) es j → Shows rule es (verdict.BreachAt j)
shows_breach rule es j ok first = record {
  breach = λ k. ((λ e. subst (First (NoEnding rule) es) (is_breach (verdict.BreachAt j) k e) first), (λ f. ap verdict.BreachAt (first_one (NoEnding rule) es j k first f)));
  clear = λ i. ((λ e. absurd (is_clear (verdict.BreachAt j) i e)), (λ f. absurd (no_ending_later rule j es ok first.holds (safe_now rule i es ok f.holds))));
  kept = λ i e. absurd (is_clear (verdict.BreachAt j) i e);
}

pub shows_clear : (rule : Rule) (es : List ℕ) (i : ℕ) → AllByRecursion (Event rule) es → First (ReachesSafe rule) es i → Shows rule es (verdict.ClearSince i)
shows_clear rule es i ok first = record {
  breach = λ j. ((λ e. absurd (is_breach (verdict.ClearSince i) j e)), (λ f. absurd (no_ending_later rule j es ok f.holds (safe_now rule i es ok first.holds))));
  clear = λ k. ((λ e. subst (First (ReachesSafe rule) es) (is_clear (verdict.ClearSince i) k e) first), (λ f. ap verdict.ClearSince (first_one (ReachesSafe rule) es i k first f)));
  kept = λ k e more more-ok. safe_ending rule (take k es) more more-ok (subst (λ (n : ℕ). ReachesSafe rule (take n es)) (is_clear (verdict.ClearSince i) k e) first.holds);
}

pub open_lasts : (rule : Rule) (es : List ℕ) → Shows rule es verdict.Open → NoEnding rule es → ⊥
open_lasts rule es shows = no_first (NoEnding rule) es (λ j f. is_breach verdict.Open j ((shows.breach j).1 f))

pub open_unsafe : (rule : Rule) (es : List ℕ) → Shows rule es verdict.Open → ReachesSafe rule es → ⊥
open_unsafe rule es shows = no_first (ReachesSafe rule) es (λ j f. is_clear verdict.Open j ((shows.clear j).1 f))

-- ---- the verdict read from a held set, and the verdict after one event more

-- a verdict read at the end of the events, where nothing was found before
reads_shows : (rule : Rule) (es : List ℕ) (set : ℕ) (w : Verdict) → SafeDecided rule → AllByRecursion (Event rule) es → Tracks rule es set
    → ((k : ℕ) → k < length es → NoEnding rule (take k es) → ⊥) → ((k : ℕ) → k < length es → ReachesSafe rule (take k es) → ⊥)
    → Reads rule (length es) set w → Shows rule es w
reads_shows rule es set w dec ok tracks lasted unsafe (inl (z, e)) = subst (Shows rule es) (sym e) (shows_breach rule es (length es) ok (record {
  within = le_refl (length es);
  holds = subst (NoEnding rule) (sym (take_all (length es) es (le_refl (length es)))) ((empty_no_ending rule es set tracks).0 z);
  before = lasted;
}))
reads_shows rule es set w dec ok tracks lasted unsafe (inr (inl ((r, rel, h), e))) = subst (Shows rule es) (sym e) (shows_clear rule es (length es) ok (record {
  within = le_refl (length es);
  holds = subst (ReachesSafe rule) (sym (take_all (length es) es (le_refl (length es)))) ((release_reaches_safe rule es set r rel tracks).0 h);
  before = unsafe;
}))
reads_shows rule es set w dec ok tracks lasted unsafe (inr (inr (nz, none, e))) = subst (Shows rule es) (sym e) (shows_open rule es ok
    (λ n. nz ((empty_no_ending rule es set tracks).1 n))
    (λ h. let r = Rattle.rules.proofs.automata.RunLaws.release_exists rule dec h.2.0 h.2.2 in none r.0 r.1 ((release_reaches_safe rule es set r.0 r.1 tracks).1 h)))

pub shows_start : (rule : Rule) (set : ℕ) (v : Verdict) → SafeDecided rule → Tracks rule [] set → Reads rule 0 set v → Shows rule [] v
shows_start rule set v dec tracks reads = reads_shows rule [] set v dec tt tracks (λ k l. absurd (not-suc-le-zero l)) (λ k l. absurd (not-suc-le-zero l)) reads

pub shows_step : (rule : Rule) (es : List ℕ) (e set : ℕ) (v w : Verdict) → SafeDecided rule → AllByRecursion (Event rule) es → Event rule e
    → Shows rule es v → Tracks rule (es ++ e ∷ []) set → Next rule (suc (length es)) set v w → Shows rule (es ++ e ∷ []) w
shows_step rule es e set verdict.Open w dec ok ok-e shows tracks reads =
    reads_shows rule (es ++ e ∷ []) set w dec all tracks
    (λ k l n. open_lasts rule es shows (no_ending_later rule k es ok (subst (NoEnding rule) (early k l) n)))
    (λ k l h. open_unsafe rule es shows (safe_later rule k es ok (subst (ReachesSafe rule) (early k l) h)))
    (subst (λ (n : ℕ). Reads rule n set w) count reads)
  where
    all : AllByRecursion (Event rule) (es ++ e ∷ [])
    all = all_++ (Event rule) es (e ∷ []) ok (ok-e, tt)

    count : suc (length es) ≡ length (es ++ e ∷ [])
    count = omega (arith, length-append es (e ∷ []))

    early : (k : ℕ) → k < length (es ++ e ∷ []) → take k (es ++ e ∷ []) ≡ take k es
    early k l = take-append-le k es (e ∷ []) (omega (arith, count))
shows_step rule es e set (verdict.BreachAt j) w dec ok ok-e shows tracks same = subst (Shows rule (es ++ e ∷ [])) (sym same)
    (shows_breach rule (es ++ e ∷ []) j (all_++ (Event rule) es (e ∷ []) ok (ok-e, tt)) (first_more (NoEnding rule) es (e ∷ []) j ((shows.breach j).0 refl)))
shows_step rule es e set (verdict.ClearSince i) w dec ok ok-e shows tracks same = subst (Shows rule (es ++ e ∷ [])) (sym same)
    (shows_clear rule (es ++ e ∷ []) i (all_++ (Event rule) es (e ∷ []) ok (ok-e, tt)) (first_more (ReachesSafe rule) es (e ∷ []) i ((shows.clear i).0 refl)))

-- ---- any list of events

watch_from : (rule : Rule) (trees : List Tree) → SafeDecided rule → AllServe rule trees → (es done : List ℕ) (held set : ℕ) (v w : Verdict)
    → AllByRecursion (Event rule) es → AllByRecursion (Event rule) done → Tracks rule done held → Shows rule done v → WatchesFrom rule trees (length done) held v es set w
    → Tracks rule (done ++ es) set × Shows rule (done ++ es) w
watch_from rule trees dec serves [] done held set v w ok ok-done tracks shows (p, q) = (
  subst (λ (l : List ℕ). Tracks rule l set) (sym (append-nil done)) (subst (Tracks rule done) p tracks),
  subst (λ (l : List ℕ). Shows rule l w) (sym (append-nil done)) (subst (Shows rule done) q shows),
)
watch_from rule trees dec serves (e ∷ es) done held set v w ok ok-done tracks shows (next, settled, (shown, reads, rest)) =
    let tracks' = tracks_step rule trees done held e next dec serves ok.0 tracks settled in
    subst (λ (l : List ℕ). Tracks rule l set × Shows rule l w) (append_assoc done (e ∷ []) es)
    (watch_from rule trees dec serves es (done ++ e ∷ []) next set shown w ok.1 (all_++ (Event rule) done (e ∷ []) ok-done (ok.0, tt)) tracks'
    (shows_step rule done e next v shown dec ok-done ok.0 shows tracks' reads)
    (subst (λ (n : ℕ). WatchesFrom rule trees n next shown es set w) count rest))
  where
    count : suc (length done) ≡ length (done ++ e ∷ [])
    count = omega (arith, length-append done (e ∷ []))

pub watch_shows : (rule : Rule) (trees : List Tree) → SafeDecided rule → AllServe rule trees → (es : List ℕ) (set : ℕ) (w : Verdict)
    → AllByRecursion (Event rule) es → Watches rule trees es set w → Tracks rule es set × Shows rule es w
watch_shows rule trees dec serves es set w ok (raw, start, (first, settled, (v, reads, rest))) =
    let tracks = tracks_start rule raw first dec start settled in
    watch_from rule trees dec serves es [] first set v w ok tt tracks (shows_start rule first v dec tracks reads) rest

pub watches_held : (rule : Rule) (trees : List Tree) (es : List ℕ) (set : ℕ) (w : Verdict) → Watches rule trees es set w → Held rule trees es set
watches_held rule trees es set w (raw, start, (first, settled, (v, reads, rest))) = (raw, start, (first, settled, from es 0 first v rest))
  where
    from : (es : List ℕ) (count held : ℕ) (v : Verdict) → WatchesFrom rule trees count held v es set w → HeldFrom rule trees held es set
    from [] count held v (p, q) = p
    from (e ∷ es) count held v (next, settled, (shown, x, rest)) = (next, settled, from es (suc count) next shown rest)

-- ---- the theorem in one piece

pub set_says : (rule : Rule) → SafeDecided rule → (trees : List Tree) → AllServe rule trees
    → (es : List ℕ) → AllByRecursion (Event rule) es → (set : ℕ) → Held rule trees es set → SetSays rule es set
set_says rule decided trees serves es ok set held = record {
  empty = empty_no_ending rule es set tracks;
  released = λ r rel. (
    (λ h. (length es, le_refl (length es), subst (ReachesSafe rule) (sym all) ((release_reaches_safe rule es set r rel tracks).0 h))),
    (λ (k, l, h). (release_reaches_safe rule es set r rel tracks).1 (safe_later rule k es ok h)),
  );
  members = λ none. which tracks.which (λ h. none (length es) (le_refl (length es)) (subst (ReachesSafe rule) (sym all) h));
}
  where
    tracks : Tracks rule es set
    tracks = held_tracks rule trees decided serves es set ok held

    all : take (length es) es ≡ es
    all = take_all (length es) es (le_refl (length es))

    which : Released rule es set ⊎ Unreleased rule es set → (ReachesSafe rule es → ⊥) → (t : ℕ) → (t ∈ set) ↔ (Live rule t × Reaches rule es t)
    which (inl (h, x)) none = absurd (none h)
    which (inr (x, mem)) none = mem

-- ---- whether a breach stands

-- a verdict that is no breach leaves an ending
pub not_breach : (rule : Rule) (es : List ℕ) (v : Verdict) → Shows rule es v → (IsBreach v → ⊥) → NoEnding rule es → ⊥
not_breach rule es v shows nb = no_first (NoEnding rule) es (λ j f. nb (j, (shows.breach j).1 f))

-- a breach stands just when some of the first events have no ending
pub breach_stands : (rule : Rule) (trees : List Tree) (es : List ℕ) → AllByRecursion (Event rule) es → TellsBreach rule trees es ↔ ((j : ℕ) × First (NoEnding rule) es j)
breach_stands rule trees es ok = (
  (λ (v, tells, (j, e)). (j, ((tells.shows ok).breach j).0 e)),
  (λ (j, first). (verdict.BreachAt j, record { shows = λ ok'. shows_breach rule es j ok' first }, (j, refl))),
)

pub no_breach_stands : (rule : Rule) (trees : List Tree) (es : List ℕ) → AllByRecursion (Event rule) es → TellsNoBreach rule trees es → NoEnding rule es → ⊥
no_breach_stands rule trees es ok (v, tells, nb) = not_breach rule es v (tells.shows ok) nb
