-- What the held set says: empty just when there is no ending, and the release state alone just when a safe state can have been reached.
use Rattle.std.proofs.Common.{◌≡◌, ℕ, ◌^◌, ◌<◌, ◌⊎◌, ◌↔◌, List, [], ◌∷◌, ◌++◌, sym, refl, ◌∙◌, subst, inl, inr, append_assoc, append-nil}
use Rattle.std.proofs.lemmas.Nat.{pow_below}
use Rattle.std.specs.List.{AllByRecursion}
use Rattle.events.specs.Sets.{◌∈◌}
use Rattle.rules.specs.automata.Rules.{Rule, Event}
use Rattle.rules.specs.automata.Runs.{Step, Ending, Live, Safe, Reaches, ReachesSafe, NoEnding}
use Rattle.rules.specs.automata.Pruning.{Release, StandsFor, Pruned}
use Rattle.rules.specs.trees.Trees.{Tree, gives, Serves}
use Rattle.rules.specs.watch.Holding.{tree_of, Settled, StartSet, HeldFrom, Held, leads_to, SafeDecided}
use Rattle.events.proofs.SetLaws.{dec∈, ∈_none, ∈_one, ∈_below, no_member, ∈_union, union_small}
use Rattle.rules.proofs.automata.RunLaws.{event_below, run_++, run_split, run_one, one_run, live_back, ending_reaches, reaches_ending, safe_live, safe_below, safe_more, safe_reaches_live, release_one, release_exists}

abbrev pub Released : Rule → List ℕ → ℕ → Type 0
Released rule es set = ReachesSafe rule es × ((r : ℕ) × Release rule r × (set ≡ 2 ^ r))

abbrev pub Unreleased : Rule → List ℕ → ℕ → Type 0
Unreleased rule es set = (ReachesSafe rule es → ⊥) × ((t : ℕ) → (t ∈ set) ↔ (Live rule t × Reaches rule es t))

-- what a held set is after the events: the release state alone where they can have reached a safe state, and otherwise the live states that they can have reached
pub record Tracks (rule : Rule) (es : List ℕ) (set : ℕ) : Type 0 where
  pub small : set < 2 ^ 32
  pub which : Released rule es set ⊎ Unreleased rule es set

pub safe_decided : (rule : Rule) (safe : ℕ) → ((q : ℕ) → (q ∈ safe) ↔ Safe rule q) → SafeDecided rule
safe_decided rule safe is q = go (dec∈ q safe)
  where
    go : (q ∈ safe) ⊎ (q ∈ safe → ⊥) → Safe rule q ⊎ (Safe rule q → ⊥)
    go (inl h) = inl ((is q).0 h)
    go (inr n) = inr (λ h. n ((is q).1 h))

release_small : (rule : Rule) (r : ℕ) → Release rule r → 2 ^ r < 2 ^ 32
release_small rule r h = pow_below r 32 (safe_below rule r h.0)

-- ---- a set of states as held, once settled, is what the held set should be

settle : (rule : Rule) (es : List ℕ) (raw set : ℕ) → SafeDecided rule → raw < 2 ^ 32
    → ((t : ℕ) → (t ∈ raw) ↔ ((q : ℕ) × Reaches rule es q × StandsFor rule q t)) → Settled rule raw set → Tracks rule es set
settle rule es raw set dec small mem (inl (r, rel, h, e)) = record {
  small = subst (λ (n : ℕ). n < 2 ^ 32) (sym e) (release_small rule r rel);
  which = inl (safe ((mem r).0 h), (r, rel, e));
}
  where
    kind : (q : ℕ) → ((Safe rule q → ⊥) × (r ≡ q)) ⊎ (Safe rule q × Release rule r) → Safe rule q
    kind q (inl (no_safe, p)) = absurd (no_safe (subst (Safe rule) p rel.0))
    kind q (inr (s, x)) = s

    safe : (q : ℕ) × Reaches rule es q × StandsFor rule q r → ReachesSafe rule es
    safe (q, reach, held-as) = (reach.0, reach.1, (q, reach.2, kind q held-as.1))
settle rule es raw set dec small mem (inr (no_release, e)) = record {
  small = subst (λ (n : ℕ). n < 2 ^ 32) (sym e) small;
  which = inr (no_safe, λ t. subst (λ (n : ℕ). (t ∈ n) ↔ (Live rule t × Reaches rule es t)) (sym e) (members t));
}
  where
    no_safe : ReachesSafe rule es → ⊥
    no_safe (s, st, (q, run, safe)) =
        let r = release_exists rule dec q safe in
        no_release r.0 r.1 ((mem r.0).1 (q, (s, st, run), (safe_live rule q safe, inr (safe, r.1))))

    kind : (t q : ℕ) → Reaches rule es q → Live rule q → ((Safe rule q → ⊥) × (t ≡ q)) ⊎ (Safe rule q × Release rule t) → Live rule t × Reaches rule es t
    kind t q reach l (inl (x, p)) = (subst (Live rule) (sym p) l, subst (Reaches rule es) (sym p) reach)
    kind t q reach l (inr (s, x)) = absurd (no_safe (reach.0, reach.1, (q, reach.2, s)))

    as_held : (t : ℕ) → Live rule t → Reaches rule es t → Safe rule t ⊎ (Safe rule t → ⊥) → StandsFor rule t t
    as_held t l reach (inl s) = absurd (no_safe (reach.0, reach.1, (t, reach.2, s)))
    as_held t l reach (inr n) = (l, inl (n, refl))

    members : (t : ℕ) → (t ∈ raw) ↔ (Live rule t × Reaches rule es t)
    members t = (
      (λ h. let m = (mem t).0 h in kind t m.0 m.1 m.2.0 m.2.1),
      (λ h. (mem t).1 (t, h.1, as_held t h.0 h.1 (dec t))),
    )

-- ---- at the start

pub tracks_start : (rule : Rule) (raw set : ℕ) → SafeDecided rule → StartSet rule raw → Settled rule raw set → Tracks rule [] set
tracks_start rule raw set dec start settled = settle rule [] raw set dec start.small members settled
  where
    members : (t : ℕ) → (t ∈ raw) ↔ ((q : ℕ) × Reaches rule [] q × StandsFor rule q t)
    members t = (
      (λ h. let m = (start.members t).0 h in (m.0, (m.0, m.1, refl), m.2)),
      (λ (q, (s, st, p), held-as). (start.members t).1 (s, st, subst (λ (k : ℕ). StandsFor rule k t) (sym p) held-as)),
    )

-- ---- one event more

abbrev pub AllServe : Rule → List Tree → Type 0
AllServe rule trees = (q : ℕ) → q < 32 → Serves rule q (tree_of trees q)

reaches_step : (rule : Rule) (es : List ℕ) (q e r : ℕ) → Reaches rule es q → Step rule q e r → Reaches rule (es ++ e ∷ []) r
reaches_step rule es q e r (s, st, run) step = (s, st, run_++ rule s es (e ∷ []) q r run (run_one rule q e r step))

step_reaches : (rule : Rule) (es : List ℕ) (e r : ℕ) → Reaches rule (es ++ e ∷ []) r → (q : ℕ) × Reaches rule es q × Step rule q e r
step_reaches rule es e r (s, st, run) = let cut = run_split rule s es (e ∷ []) r run in (cut.0, (s, st, cut.1), one_run rule cut.0 e r cut.2)

raw_small : (rule : Rule) (trees : List Tree) (held e : ℕ) → AllServe rule trees → e < 64 → leads_to trees held e < 2 ^ 32
raw_small rule trees held e serves below = union_small 32 held (λ q. gives (tree_of trees q) e) 32 (λ q l. (serves q l e below).small)

step_unreleased : (rule : Rule) (trees : List Tree) (es : List ℕ) (held e next : ℕ) → SafeDecided rule → AllServe rule trees → Event rule e
    → held < 2 ^ 32 → Unreleased rule es held → Settled rule (leads_to trees held e) next → Tracks rule (es ++ e ∷ []) next
step_unreleased rule trees es held e next dec serves ok small (no_safe, mem) settled =
    settle rule (es ++ e ∷ []) raw next dec (raw_small rule trees held e serves (event_below rule e ok)) members settled
  where
    below : e < 64
    below = event_below rule e ok

    raw : ℕ
    raw = leads_to trees held e

    unsafe : (q : ℕ) → Reaches rule es q → Safe rule q → ⊥
    unsafe q (s, st, run) h = no_safe (s, st, (q, run, h))

    Goal : ℕ → Type 0
    Goal t = (r : ℕ) × Reaches rule (es ++ e ∷ []) r × StandsFor rule r t

    from : (t q : ℕ) → Reaches rule es q → Pruned rule q e t → Goal t
    from t q reach (inl (l, n, (r, step, held-as))) = (r, reaches_step rule es q e r reach step, held-as)
    from t q reach (inr (rel, p)) = absurd (unsafe q reach rel.0)

    fwd : (t : ℕ) → t ∈ raw → Goal t
    fwd t h =
        let f = (∈_union 32 held (λ q. gives (tree_of trees q) e) t).0 h in
        from t f.0 ((mem f.0).0 f.2).1 (((serves f.0 f.1 e below).members t).0 f.3)

    bwd : (t : ℕ) → Goal t → t ∈ raw
    bwd t (r, reach, held-as) =
        let back = step_reaches rule es e r reach in
        let q = back.0 in
        let live = live_back rule q (e ∷ []) r (ok, tt) (run_one rule q e r back.2) held-as.0 in
        let in_held = (mem q).1 (live, back.1) in
        let low = ∈_below 32 q held small in_held in
        (∈_union 32 held (λ q. gives (tree_of trees q) e) t).1
        (q, low, in_held, ((serves q low e below).members t).1 (inl (live, unsafe q back.1, (r, back.2, held-as))))

    members : (t : ℕ) → (t ∈ raw) ↔ ((q : ℕ) × Reaches rule (es ++ e ∷ []) q × StandsFor rule q t)
    members t = (fwd t, bwd t)

-- once released, the held set stays the release state alone
step_released : (rule : Rule) (trees : List Tree) (es : List ℕ) (held e next : ℕ) → AllServe rule trees → Event rule e
    → Released rule es held → Settled rule (leads_to trees held e) next → Tracks rule (es ++ e ∷ []) next
step_released rule trees es held e next serves ok (safe, (r, rel, p)) (inl (r', rel', h, p')) = record {
  small = subst (λ (n : ℕ). n < 2 ^ 32) (sym p') (release_small rule r' rel');
  which = inl (safe_more rule es (e ∷ []) (ok, tt) safe, (r', rel', p'));
}
step_released rule trees es held e next serves ok (safe, (r, rel, p)) (inr (none, p')) =
    let low = safe_below rule r rel.0 in
    absurd (none r rel ((∈_union 32 held (λ q. gives (tree_of trees q) e) r).1
    (r, low, subst (λ (n : ℕ). r ∈ n) (sym p) (∈_one r), ((serves r low e (event_below rule e ok)).members r).1 (inr (rel, refl)))))

pub tracks_step : (rule : Rule) (trees : List Tree) (es : List ℕ) (held e next : ℕ) → SafeDecided rule → AllServe rule trees → Event rule e
    → Tracks rule es held → Settled rule (leads_to trees held e) next → Tracks rule (es ++ e ∷ []) next
tracks_step rule trees es held e next dec serves ok tracks settled = go tracks.which
  where
    go : Released rule es held ⊎ Unreleased rule es held → Tracks rule (es ++ e ∷ []) next
    go (inl h) = step_released rule trees es held e next serves ok h settled
    go (inr h) = step_unreleased rule trees es held e next dec serves ok tracks.small h settled

-- ---- any list of events

pub tracks_from : (rule : Rule) (trees : List Tree) → SafeDecided rule → AllServe rule trees → (es : List ℕ) (done : List ℕ) (held set : ℕ)
    → AllByRecursion (Event rule) es → Tracks rule done held → HeldFrom rule trees held es set → Tracks rule (done ++ es) set
tracks_from rule trees dec serves [] done held set ok tracks h =
    subst (λ (l : List ℕ). Tracks rule l set) (sym (append-nil done)) (subst (Tracks rule done) h tracks)
tracks_from rule trees dec serves (e ∷ es) done held set ok tracks (next, settled, h) =
    subst (λ (l : List ℕ). Tracks rule l set) (append_assoc done (e ∷ []) es)
    (tracks_from rule trees dec serves es (done ++ e ∷ []) next set ok.1 (tracks_step rule trees done held e next dec serves ok.0 tracks settled) h)

pub held_tracks : (rule : Rule) (trees : List Tree) → SafeDecided rule → AllServe rule trees → (es : List ℕ) (set : ℕ)
    → AllByRecursion (Event rule) es → Held rule trees es set → Tracks rule es set
held_tracks rule trees dec serves es set ok (raw, start, (first, settled, h)) =
    tracks_from rule trees dec serves es [] first set ok (tracks_start rule raw first dec start settled) h

-- ---- what the set says

pub empty_no_ending : (rule : Rule) (es : List ℕ) (set : ℕ) → Tracks rule es set → (set ≡ 0) ↔ NoEnding rule es
empty_no_ending rule es set tracks = go tracks.which
  where
    go : Released rule es set ⊎ Unreleased rule es set → (set ≡ 0) ↔ NoEnding rule es
    go (inl (safe, (r, rel, p))) = (
      (λ z. absurd (∈_none r (subst (λ (n : ℕ). r ∈ n) (sym p ∙ z) (∈_one r)))),
      (λ n. absurd (n (reaches_ending rule es (safe_reaches_live rule es safe)))),
    )
    go (inr (no_safe, mem)) = (none, (λ n. no_member 32 set tracks.small (λ k h. n (ends k ((mem k).0 h)))))
      where
        none : set ≡ 0 → NoEnding rule es
        none z e =
            let (s, st, (q, run, l)) = ending_reaches rule es e in
            ∈_none q (subst (λ (n : ℕ). q ∈ n) z ((mem q).1 (l, (s, st, run))))

        ends : (k : ℕ) → Live rule k × Reaches rule es k → Ending rule es
        ends k (l, (s, st, run)) = reaches_ending rule es (s, st, (k, run, l))

pub release_reaches_safe : (rule : Rule) (es : List ℕ) (set r : ℕ) → Release rule r → Tracks rule es set → (r ∈ set) ↔ ReachesSafe rule es
release_reaches_safe rule es set r rel tracks = go tracks.which
  where
    go : Released rule es set ⊎ Unreleased rule es set → (r ∈ set) ↔ ReachesSafe rule es
    go (inl (safe, (r', rel', p))) = (
      (λ h. safe),
      (λ h. subst (λ (n : ℕ). r ∈ n) (sym p) (subst (λ (n : ℕ). r ∈ 2 ^ n) (release_one rule r r' rel rel') (∈_one r))),
    )
    go (inr (no_safe, mem)) = ((λ h. let (l, (s, st, run)) = (mem r).0 h in (s, st, (r, run, rel.0))), (λ h. absurd (no_safe h)))
