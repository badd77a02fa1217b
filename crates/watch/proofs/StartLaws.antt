-- The set that a watch newly armed holds: the live start states, or the release state alone where one of them is safe.
use Rattle.std.proofs.Common.{◌≡◌, ℕ, ◌^◌, ◌<◌, Bool, true, false, cond, not, ◌&&◌, T, eqb, ◌⊎◌, ◌↔◌, sym, refl, ap, ◌∙◌, subst, inl, inr, arith}
use lib.Bits.{bit_and, bit_or}
use lib.Dec.{not_T}
use Rattle.std.proofs.lemmas.Nat.{or_lt, pow_below}
use Rattle.std.proofs.lemmas.Bool.{eqb-true, eqb-false}
use Rattle.events.specs.Sets.{has, ◌∈◌, set_of}
use Rattle.events.proofs.SetLaws.{T_and, ∈-or, ∈-and, ∈_one, ∈_one_is, ∈-set_of, set_of_small, ∈_some_in, ∈_none_in}
use Rattle.rules.specs.automata.Rules.{Rule, Starts, WellFormed}
use Rattle.rules.specs.automata.Runs.{Live, Safe}
use Rattle.rules.specs.automata.Pruning.{Release, StandsFor}
use Rattle.rules.specs.watch.Holding.{Settled, ReleaseSet, StartSet}
use Rattle.rules.proofs.automata.RunLaws.{safe_live, safe_below, release_one}
use Rattle.rules.proofs.automata.RuleLaws.{live_small}

-- a start set, and what is held of it
abbrev pub Begun : Rule → ℕ → Type 0
Begun rule held = (raw : ℕ) × StartSet rule raw × Settled rule raw held

module _ (rule : Rule) (well : WellFormed rule) (live safe starts release : ℕ)
    (live_is : (q : ℕ) → (q ∈ live) ↔ Live rule q) (safe_is : (q : ℕ) → (q ∈ safe) ↔ Safe rule q) (starts_are : (q : ℕ) → (q ∈ starts) ↔ Starts rule q)
    (small : starts < 2 ^ 32) (release_is : ReleaseSet rule release) where
  -- ---- no start state is safe

  module _ (none : bit_and starts safe ≡ 0) where
    unsafe : (s : ℕ) → Starts rule s → Safe rule s → ⊥
    unsafe s st sf = ∈_none_in starts safe s none ((starts_are s).1 st) ((safe_is s).1 sf)

    begun_open : Begun rule (bit_and starts live)
    begun_open = (bit_and starts live, record { small = and_small; members = λ t. (fwd t, (λ (s, st, stands). bwd t s st stands)) }, inr ((λ r rel h. no_release r rel h), refl))
      where
        and_small : bit_and starts live < 2 ^ 32
        and_small = omega (arith, lib.Bits.and_le_l starts live)

        fwd : (t : ℕ) → t ∈ bit_and starts live → (s : ℕ) × Starts rule s × StandsFor rule s t
        fwd t h =
            let (a, b) = (∈-and t starts live).0 h in
            (t, (starts_are t).0 a, ((live_is t).0 b, inl (unsafe t ((starts_are t).0 a), refl)))

        bwd : (t s : ℕ) → Starts rule s → StandsFor rule s t → t ∈ bit_and starts live
        bwd t s st (l, inl (u, p)) = subst (λ (k : ℕ). k ∈ bit_and starts live) (sym p) ((∈-and s starts live).1 ((starts_are s).1 st, (live_is s).1 l))
        bwd t s st (l, inr (sf, rel)) = absurd (unsafe s st sf)

        no_release : (r : ℕ) → Release rule r → r ∈ bit_and starts live → ⊥
        no_release r rel h = unsafe r ((starts_are r).0 ((∈-and r starts live).0 h).0) rel.0

  -- ---- some start state is safe

  module _ (some : bit_and starts safe ≡ 0 → ⊥) where
    begins : (s : ℕ) × Starts rule s × Safe rule s
    begins = let (k, l, a, b) = ∈_some_in 32 starts safe small some in (k, (starts_are k).0 a, (safe_is k).0 b)

    -- the start states that are live and not safe
    tested : ℕ → Bool
    tested t = has starts t && (has live t && not (has safe t))

    begun_at : (r : ℕ) → Release rule r → release ≡ 2 ^ r → Begun rule release
    unfolding tested
    begun_at r rel e = (
      bit_or (set_of 32 tested) release,
      record {
        small = or_lt 32 (set_of 32 tested) release (set_of_small 32 tested) (subst (λ (n : ℕ). n < 2 ^ 32) (sym e) (pow_below r 32 (safe_below rule r rel.0)));
        members = λ t. (fwd t, (λ (s, st, stands). bwd t s st stands));
      },
      inl (r, rel, (∈-or r (set_of 32 tested) release).1 (inr (is_release r rel)), e),
    )
      where
        is_release : (t : ℕ) → Release rule t → t ∈ release
        is_release t rel' = subst (λ (n : ℕ). t ∈ n) (sym (e ∙ ap (λ (k : ℕ). 2 ^ k) (release_one rule r t rel rel'))) (∈_one t)

        from_release : (t : ℕ) → t ∈ release → Release rule t
        from_release t h = subst (Release rule) (sym (∈_one_is t r (subst (λ (n : ℕ). t ∈ n) e h))) rel

        fwd : (t : ℕ) → t ∈ bit_or (set_of 32 tested) release → (s : ℕ) × Starts rule s × StandsFor rule s t
        fwd t h = go ((∈-or t (set_of 32 tested) release).0 h)
          where
            go : (t ∈ set_of 32 tested) ⊎ (t ∈ release) → (s : ℕ) × Starts rule s × StandsFor rule s t
            go (inl m) =
                let (a, rest) = (T_and (has starts t) (has live t && not (has safe t))).0 ((∈-set_of 32 tested t).0 m).1 in
                let (b, c) = (T_and (has live t) (not (has safe t))).0 rest in
                (t, (starts_are t).0 a, ((live_is t).0 b, inl ((λ sf. not_safe (has safe t) c ((safe_is t).1 sf)), refl)))
              where
                not_safe : (b : Bool) → T (not b) → T b → ⊥
                not_safe true n y = n
                not_safe false n y = y
            go (inr m) = let (s, st, sf) = begins in (s, st, (safe_live rule s sf, inr (sf, from_release t m)))

        bwd : (t s : ℕ) → Starts rule s → StandsFor rule s t → t ∈ bit_or (set_of 32 tested) release
        bwd t s st (l, inl (u, p)) =
            let there : T (tested s) = (T_and (has starts s) (has live s && not (has safe s))).1 ((starts_are s).1 st, (T_and (has live s) (not (has safe s))).1 ((live_is s).1 l, not_T (has safe s) (λ h. u ((safe_is s).0 h)))) in
            subst (λ (k : ℕ). k ∈ bit_or (set_of 32 tested) release) (sym p) ((∈-or s (set_of 32 tested) release).1 (inl ((∈-set_of 32 tested s).1 (live_small rule well s l, there))))
        bwd t s st (l, inr (sf, rel')) = (∈-or t (set_of 32 tested) release).1 (inr (is_release t rel'))

    begun_clear : Begun rule release
    begun_clear = go release_is
      where
        go : ((r : ℕ) × Release rule r × (release ≡ 2 ^ r)) ⊎ (((r : ℕ) → Release rule r → ⊥) × (release ≡ 0)) → Begun rule release
        go (inl (r, rel, e)) = begun_at r rel e
        go (inr (no_release, e)) = absurd (let (s, st, sf) = begins in no_safe s sf)
          where
            no_safe : (s : ℕ) → Safe rule s → ⊥
            no_safe s sf = no_release (found s sf).0 (found s sf).1
              where
                found : (s : ℕ) → Safe rule s → (r : ℕ) × Release rule r
                found s sf = Rattle.rules.proofs.automata.RunLaws.release_exists rule (Rattle.rules.proofs.watch.HeldLaws.safe_decided rule safe safe_is) s sf

  pub begun : Begun rule (cond (eqb (bit_and starts safe) 0) (bit_and starts live) release)
  begun = go (eqb (bit_and starts safe) 0) refl
    where
      go : (b : Bool) → eqb (bit_and starts safe) 0 ≡ b → Begun rule (cond b (bit_and starts live) release)
      go true e = begun_open (eqb-true (bit_and starts safe) 0 e)
      go false e = begun_clear (eqb-false (bit_and starts safe) 0 e)

  -- what is held are live states
  pub begun_lives : ((q : ℕ) → q ∈ release → Live rule q) → (q : ℕ) → q ∈ cond (eqb (bit_and starts safe) 0) (bit_and starts live) release → Live rule q
  begun_lives released q h = go (eqb (bit_and starts safe) 0) h
    where
      go : (b : Bool) → q ∈ cond b (bit_and starts live) release → Live rule q
      go true h = (live_is q).0 ((∈-and q starts live).0 h).1
      go false h = released q h
