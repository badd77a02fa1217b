-- Runs one after the other, endings as runs to live states, and what a safe state promises.
use Rattle.std.proofs.Common.{◌≡◌, ℕ, zero, suc, ◌<◌, ◌⊎◌, List, [], ◌∷◌, ◌++◌, sym, refl, subst, inl, inr, append_assoc, arith}
use Rattle.std.specs.List.{AllByRecursion}
use Rattle.events.specs.Sets.{◌∈◌}
use Rattle.rules.specs.automata.Rules.{Rule, Event}
use Rattle.rules.specs.automata.Runs.{Step, Run, Ending, Live, SafeSet, Safe, ReachesLive, ReachesSafe, NoEnding}
use Rattle.rules.specs.automata.Pruning.{Release}
use Rattle.events.proofs.SetLaws.{∈_below}

-- ---- lists of events

pub event_below : (rule : Rule) (e : ℕ) → Event rule e → e < 64
event_below rule e h = h

pub all_++ : {A : Type 0} (P : A → Type 0) (xs ys : List A) → AllByRecursion P xs → AllByRecursion P ys → AllByRecursion P (xs ++ ys)
all_++ P [] ys h k = k
all_++ P (x ∷ xs) ys h k = (h.0, all_++ P xs ys h.1 k)

pub all_left : {A : Type 0} (P : A → Type 0) (xs ys : List A) → AllByRecursion P (xs ++ ys) → AllByRecursion P xs
all_left P [] ys h = tt
all_left P (x ∷ xs) ys h = (h.0, all_left P xs ys h.1)

pub all_right : {A : Type 0} (P : A → Type 0) (xs ys : List A) → AllByRecursion P (xs ++ ys) → AllByRecursion P ys
all_right P [] ys h = h
all_right P (x ∷ xs) ys h = all_right P xs ys h.1

-- ---- runs

pub run_++ : (rule : Rule) (q : ℕ) (xs ys : List ℕ) (p r : ℕ) → Run rule q xs p → Run rule p ys r → Run rule q (xs ++ ys) r
run_++ rule q [] ys p r a b = subst (λ (s : ℕ). Run rule s ys r) (sym a) b
run_++ rule q (x ∷ xs) ys p r a b = (a.0, a.1, run_++ rule a.0 xs ys p r a.2 b)

pub run_split : (rule : Rule) (q : ℕ) (xs ys : List ℕ) (r : ℕ) → Run rule q (xs ++ ys) r → (p : ℕ) × Run rule q xs p × Run rule p ys r
run_split rule q [] ys r h = (q, refl, h)
run_split rule q (x ∷ xs) ys r h = let rest = run_split rule h.0 xs ys r h.2 in (rest.0, (h.0, h.1, rest.1), rest.2)

pub run_one : (rule : Rule) (q e r : ℕ) → Step rule q e r → Run rule q (e ∷ []) r
run_one rule q e r s = (r, s, refl)

pub one_run : (rule : Rule) (q e r : ℕ) → Run rule q (e ∷ []) r → Step rule q e r
one_run rule q e r h = subst (λ (p : ℕ). Step rule q e p) h.2 h.1

-- ---- a state with a run to a live state is live, and an ending is a run to a live state

-- a live state's own run to an accepting state
pub live_there : (rule : Rule) (q : ℕ) (l : Live rule q) → Run rule q l.u l.accepting
live_there rule q l = subst (λ (s : ℕ). Run rule s l.u l.accepting) l.begins l.there

pub live_back : (rule : Rule) (q : ℕ) (es : List ℕ) (r : ℕ) → AllByRecursion (Event rule) es → Run rule q es r → Live rule r → Live rule q
live_back rule q es r ok run l = record {
  u = es ++ l.u;
  v = l.v;
  u_events = all_++ (Event rule) es l.u ok l.u_events;
  v_events = l.v_events;
  v_turns = l.v_turns;
  start = q;
  accepting = l.accepting;
  begins = refl;
  accepts = l.accepts;
  there = run_++ rule q es l.u r l.accepting run (live_there rule r l);
  round = l.round;
}

pub ending_reaches : (rule : Rule) (es : List ℕ) → Ending rule es → ReachesLive rule es
ending_reaches rule es e =
    let cut = run_split rule e.start es e.u e.accepting e.there in (
      e.start,
      e.begins,
      (
        cut.0,
        cut.1,
        record {
          u = e.u;
          v = e.v;
          u_events = e.u_events;
          v_events = e.v_events;
          v_turns = e.v_turns;
          start = cut.0;
          accepting = e.accepting;
          begins = refl;
          accepts = e.accepts;
          there = cut.2;
          round = e.round;
        },
      ),
    )

pub reaches_ending : (rule : Rule) (es : List ℕ) → ReachesLive rule es → Ending rule es
reaches_ending rule es (s, st, (q, run, l)) = record {
  u = l.u;
  v = l.v;
  u_events = l.u_events;
  v_events = l.v_events;
  v_turns = l.v_turns;
  start = s;
  accepting = l.accepting;
  begins = st;
  accepts = l.accepts;
  there = run_++ rule s es l.u q l.accepting run (live_there rule q l);
  round = l.round;
}

-- an ending of more events is one of fewer
pub ending_back : (rule : Rule) (es more : List ℕ) → AllByRecursion (Event rule) more → Ending rule (es ++ more) → Ending rule es
ending_back rule es more ok e = record {
  u = more ++ e.u;
  v = e.v;
  u_events = all_++ (Event rule) more e.u ok e.u_events;
  v_events = e.v_events;
  v_turns = e.v_turns;
  start = e.start;
  accepting = e.accepting;
  begins = e.begins;
  accepts = e.accepts;
  there = subst (λ (l : List ℕ). Run rule e.start l e.accepting) (append_assoc es more e.u) e.there;
  round = e.round;
}

pub no_ending_more : (rule : Rule) (es more : List ℕ) → AllByRecursion (Event rule) more → NoEnding rule es → NoEnding rule (es ++ more)
no_ending_more rule es more ok n e = n (ending_back rule es more ok e)

-- ---- safe states

pub safe_live : (rule : Rule) (q : ℕ) → Safe rule q → Live rule q
safe_live rule q h = h.1.live q h.2

pub safe_below : (rule : Rule) (q : ℕ) → Safe rule q → q < 32
safe_below rule q h = ∈_below 32 q h.0 h.1.small h.2

-- from a member of a safe set every list of events has a run that stays in it
pub safe_run : (rule : Rule) (set : ℕ) → SafeSet rule set → (es : List ℕ) → AllByRecursion (Event rule) es → (q : ℕ) → q ∈ set → (r : ℕ) × Run rule q es r × (r ∈ set)
safe_run rule set s [] ok q h = (q, refl, h)
safe_run rule set s (e ∷ es) ok q h =
    let step = s.stays q e h ok.0 in
    let rest = safe_run rule set s es ok.1 step.0 step.2 in
    (rest.0, (step.0, step.1, rest.1), rest.2)

pub safe_more : (rule : Rule) (es more : List ℕ) → AllByRecursion (Event rule) more → ReachesSafe rule es → ReachesSafe rule (es ++ more)
safe_more rule es more ok (s, st, (q, run, safe)) =
    let on = safe_run rule safe.0 safe.1 more ok q safe.2 in
    (s, st, (on.0, run_++ rule s es more q on.0 run on.1, (safe.0, safe.1, on.2)))

pub safe_reaches_live : (rule : Rule) (es : List ℕ) → ReachesSafe rule es → ReachesLive rule es
safe_reaches_live rule es (s, st, (q, run, safe)) = (s, st, (q, run, safe_live rule q safe))

-- once a safe state is reached, every list that begins so has an ending
pub safe_ending : (rule : Rule) (es more : List ℕ) → AllByRecursion (Event rule) more → ReachesSafe rule es → Ending rule (es ++ more)
safe_ending rule es more ok h = reaches_ending rule (es ++ more) (safe_reaches_live rule (es ++ more) (safe_more rule es more ok h))

-- ---- the release state

pub release_one : (rule : Rule) (p q : ℕ) → Release rule p → Release rule q → p ≡ q
release_one rule p q hp hq = go (Rattle.std.proofs.lemmas.Bool.cases_order p q)
  where
    go : (p ≡ q) ⊎ ((p < q) ⊎ (q < p)) → p ≡ q
    go (inl e) = e
    go (inr (inl l)) = absurd (hq.1 p l hp.0)
    go (inr (inr l)) = absurd (hp.1 q l hq.0)

-- the lowest member of a decidable kind below a bound
pub lowest_of : (P : ℕ → Type 0) → ((q : ℕ) → P q ⊎ (P q → ⊥)) → (n : ℕ) → ((q : ℕ) × P q × ((p : ℕ) → p < q → P p → ⊥)) ⊎ ((p : ℕ) → p < n → P p → ⊥)
lowest_of P dec zero = inr (λ p l. absurd (native.Mathlib.Nat.not-suc-le-zero l))
lowest_of P dec (suc n) = more (lowest_of P dec n) (dec n)
  where
    Low : Type 0
    Low = (q : ℕ) × P q × ((p : ℕ) → p < q → P p → ⊥)

    upto : ((p : ℕ) → p < n → P p → ⊥) → (P n → ⊥) → (p : ℕ) → p < suc n → P p → ⊥
    upto none here p l h = at (Rattle.std.proofs.lemmas.Bool.cases_eq p n)
      where
        at : (p ≡ n) ⊎ (p ≡ n → ⊥) → ⊥
        at (inl e) = here (subst P e h)
        at (inr ne) = none p (omega arith) h

    more : ((q : ℕ) × P q × ((p : ℕ) → p < q → P p → ⊥)) ⊎ ((p : ℕ) → p < n → P p → ⊥) → P n ⊎ (P n → ⊥)
        → ((q : ℕ) × P q × ((p : ℕ) → p < q → P p → ⊥)) ⊎ ((p : ℕ) → p < suc n → P p → ⊥)
    more (inl h) d = inl h
    more (inr none) (inl h) = inl (n, h, none)
    more (inr none) (inr not) = inr (upto none not)

pub release_exists : (rule : Rule) → ((q : ℕ) → Safe rule q ⊎ (Safe rule q → ⊥)) → (q : ℕ) → Safe rule q → (r : ℕ) × Release rule r
release_exists rule dec q h = go (lowest_of (Safe rule) dec (suc q))
  where
    go : ((r : ℕ) × Safe rule r × ((p : ℕ) → p < r → Safe rule p → ⊥)) ⊎ ((p : ℕ) → p < suc q → Safe rule p → ⊥) → (r : ℕ) × Release rule r
    go (inl l) = (l.0, (l.1, l.2))
    go (inr none) = absurd (none q (native.Mathlib.Nat.le_refl (suc q)) h)
