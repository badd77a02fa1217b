-- Four small rules, and what a watch shows of each after any list of events, from the definitions alone.
use Rattle.std.proofs.Common.{◌≡◌, ℕ, zero, suc, ◌<◌, not, T, ◌⊎◌, List, [], ◌∷◌, sym, refl, ◌∙◌, inl, inr, not-suc-le-zero, suc-ne-zero, arith, lit≤}
use Rattle.rules.specs.declared.Verdict.TheVariants as verdict
use Rattle.events.specs.Sets.{has, ◌∈◌}
use Rattle.events.specs.Cells.{Covers}
use Rattle.rules.specs.automata.Rules.{Starts, Accepts}
use Rattle.rules.specs.automata.Runs.{Step, Run, Live, SafeSet, Safe}
use Rattle.worked.specs.Cases.{AlwaysShows, clearing, staying, hopeless, wavering}
use Rattle.events.proofs.SetLaws.{dec_t, ∈_below}
use Rattle.events.proofs.CellLaws.{covers_all, covers_down}
use Rattle.rules.proofs.automata.RunLaws.{reaches_ending}
use Rattle.worked.proofs.Endings.{live_here, live_before}
use Rattle.worked.proofs.Below.{◌&◌, each_below}
use Rattle.rules.proofs.watch.VerdictLaws.{shows_open, shows_breach, shows_clear}

-- cell 1 covers the events with line 0 on, and cell 2 those with it off
covers_on : (e : ℕ) → T (has e 0) → Covers 1 e
covers_on e h = covers_down 0 0 1 e refl (lit≤ tt) (covers_all e) h

covers_off : (e : ℕ) → T (not (has e 0)) → Covers 2 e
covers_off e h = covers_down 0 0 2 e refl (lit≤ tt) (covers_all e) h

-- ---- clear since 0: start 0, accepting 1, moves (0,0,0), (0,1,1), (1,0,1)

clearing_safe : SafeSet clearing 3
unfolding has
clearing_safe = record { small = lit≤ tt; live = λ q h. live q (∈_below 2 q 3 (lit≤ tt) h); stays = λ q e h ok. stays q e (∈_below 2 q 3 (lit≤ tt) h) }
  where
    live : (q : ℕ) → q < 2 → Live clearing q
    live = each_below 2 (Live clearing) (
        live_before clearing 0 1 1 0 (lit≤ tt) (lit≤ tt) tt (1, inr (inl (refl, covers_on 1 tt, refl)), refl) (1, inr (inr (inl (refl, covers_all 0, refl))), refl)
        & live_here clearing 1 0 (lit≤ tt) tt (1, inr (inr (inl (refl, covers_all 0, refl))), refl)
        & tt
        )

    stays : (q e : ℕ) → q < 2 → (r : ℕ) × Step clearing q e r × (r ∈ 3)
    stays q e = each_below 2 (λ q. (r : ℕ) × Step clearing q e r × (r ∈ 3))
        ((0, inl (refl, covers_all e, refl), tt) & (1, inr (inr (inl (refl, covers_all e, refl))), tt) & tt) q

pub clearing_shows : AlwaysShows clearing (verdict.ClearSince 0)
unfolding has
clearing_shows es ok = shows_clear clearing es 0 ok (record {
  within = omega arith;
  holds = (0, tt, (0, refl, (3, clearing_safe, tt)));
  before = λ k l. absurd (not-suc-le-zero l);
})

-- ---- clear since 0, though a component outside it is no safe set: start and accepting 0, moves (0,0,0), (0,1,1), (1,1,0)

staying_safe : SafeSet staying 1
unfolding has
staying_safe = record { small = lit≤ tt; live = λ q h. live q (∈_below 1 q 1 (lit≤ tt) h); stays = λ q e h ok. stays q e (∈_below 1 q 1 (lit≤ tt) h) }
  where
    live : (q : ℕ) → q < 1 → Live staying q
    live = each_below 1 (Live staying) (live_here staying 0 0 (lit≤ tt) tt (0, inl (refl, covers_all 0, refl), refl) & tt)

    stays : (q e : ℕ) → q < 1 → (r : ℕ) × Step staying q e r × (r ∈ 1)
    stays q e = each_below 1 (λ q. (r : ℕ) × Step staying q e r × (r ∈ 1)) ((0, inl (refl, covers_all e, refl), tt) & tt) q

pub staying_shows : AlwaysShows staying (verdict.ClearSince 0)
unfolding has
staying_shows es ok = shows_clear staying es 0 ok (record {
  within = omega arith;
  holds = (0, tt, (0, refl, (1, staying_safe, tt)));
  before = λ k l. absurd (not-suc-le-zero l);
})

-- ---- breach at 0: no accepting state

accepts_none : (a : ℕ) → Accepts hopeless a → ⊥
accepts_none zero h = h
accepts_none (suc zero) h = h
accepts_none (suc (suc zero)) h = h
accepts_none (suc (suc (suc zero))) h = h
accepts_none (suc (suc (suc (suc a)))) h = h

pub hopeless_shows : AlwaysShows hopeless (verdict.BreachAt 0)
hopeless_shows es ok = shows_breach hopeless es 0 ok (record { within = omega arith; holds = λ e. accepts_none e.accepting e.accepts; before = λ k l. absurd (not-suc-le-zero l) })

-- ---- open for ever: both states start and accepting, moves (0,1,0), (0,1,1), (1,2,0), (1,2,1)

wavering_run : (es : List ℕ) → (q : ℕ) × (q < 2) × ((r : ℕ) × (r < 2) × Run wavering q es r)
wavering_run [] = (0, lit≤ tt, (0, lit≤ tt, refl))
wavering_run (e ∷ es) = go (dec_t (has e 0)) (wavering_run es)
  where
    off : (T (has e 0) → ⊥) → T (not (has e 0))
    off n = lib.Dec.not_T (has e 0) n

    go : T (has e 0) ⊎ (T (has e 0) → ⊥) → (q : ℕ) × (q < 2) × ((r : ℕ) × (r < 2) × Run wavering q es r) → (q : ℕ) × (q < 2) × ((r : ℕ) × (r < 2) × Run wavering q (e ∷ es) r)
    go (inl h) (q, l, (r, lr, run)) = (0, lit≤ tt, (r, lr, (q, each_below 2 (Step wavering 0 e) (inl (refl, covers_on e h, refl) & inr (inl (refl, covers_on e h, refl)) & tt) q l, run)))
    go (inr n) (q, l, (r, lr, run)) = (1, lit≤ tt, (r, lr, (q, each_below 2 (Step wavering 1 e) (inr (inr (inl (refl, covers_off e (off n), refl))) & inr (inr (inr (inl (refl, covers_off e (off n), refl)))) & tt) q l, run)))

wavering_live : (q : ℕ) → q < 2 → Live wavering q
unfolding has
wavering_live = each_below 2 (Live wavering) (
    live_here wavering 0 1 (lit≤ tt) tt (0, inl (refl, covers_on 1 tt, refl), refl)
    & live_here wavering 1 0 (lit≤ tt) tt (1, inr (inr (inr (inl (refl, covers_off 0 tt, refl)))), refl)
    & tt
    )

wavering_unsafe : (q : ℕ) → Safe wavering q → ⊥
unfolding has
wavering_unsafe q (set, safe, h) = suc-ne-zero 0 (at_off (safe.stays q 0 h (lit≤ tt)).1 ∙ sym (at_on (safe.stays q 1 h (lit≤ tt)).1))
  where
    at_off : {r : ℕ} → Step wavering q 0 r → 1 ≡ q
    at_off (inl (p, c, x)) = absurd (c 0 (lit≤ tt))
    at_off (inr (inl (p, c, x))) = absurd (c 0 (lit≤ tt))
    at_off (inr (inr (inl (p, c, x)))) = p
    at_off (inr (inr (inr (inl (p, c, x))))) = p
    at_off (inr (inr (inr (inr none)))) = absurd none

    at_on : {r : ℕ} → Step wavering q 1 r → 0 ≡ q
    at_on (inl (p, c, x)) = p
    at_on (inr (inl (p, c, x))) = p
    at_on (inr (inr (inl (p, c, x)))) = absurd (c 0 (lit≤ tt))
    at_on (inr (inr (inr (inl (p, c, x))))) = absurd (c 0 (lit≤ tt))
    at_on (inr (inr (inr (inr none)))) = absurd none

pub wavering_shows : AlwaysShows wavering verdict.Open
wavering_shows es ok = shows_open wavering es ok
    (λ n. let (s, l, (q, lq, run)) = wavering_run es in n (reaches_ending wavering es (s, each_below 2 (Starts wavering) (tt & tt & tt) s l, (q, run, wavering_live q lq))))
    (λ (s, st, (q, run, safe)). wavering_unsafe q safe)
