-- The states that are left of the live ones are the safe states, and the lowest of them is the release state.
use Rattle.std.proofs.Common.{◌≡◌, ℕ, ◌-◌, ◌^◌, ◌<◌, ◌≤◌, Bool, true, ◌&&◌, T, eqb, ◌⊎◌, ◌↔◌, List, [], ◌∷◌, length, sym, refl, subst, inl, inr, eq-zero-or-pos, lit<, eqb→eq}
use lib.Count.{count_trailing_zeros}
use Rattle.std.proofs.lemmas.Bool.{eq-eqb}
use Rattle.events.specs.Sets.{has, ◌∈◌, Subset, set_of}
use Rattle.events.specs.Cells.{Covers, covers}
use Rattle.events.proofs.CellLaws.{covers_is}
use Rattle.events.proofs.LowestLaws.{low_member, low_least}
use Rattle.events.proofs.SetLaws.{true_T, false_T, TOr, T_and, ∈-set_of, set_of_small, ∈_below, ∈_every, ∈_none, same_members, no_member, below_width}
use Rattle.rules.specs.declared.Move.{Move}
use Rattle.rules.specs.automata.Rules.{Rule, Any, WellFormed}
use Rattle.rules.specs.automata.Runs.{Safe}
use Rattle.rules.specs.automata.Pruning.{Release, Pruned, Kinds, IsPrunedSet}
use Rattle.rules.proofs.automata.MaskLaws.{HoldsSafe, safe_is}
use Rattle.rules.proofs.automata.PruningLaws.{selected_pruned}
use Rattle.rules.proofs.automata.RuleLaws.{past_dead}
use Rattle.rules.proofs.automata.RunLaws.{safe_live, safe_below}
use Rattle.pruning.specs.Computed.{covered, covered_into, kept, safe_in, live_states, safe_states, lowest_safe, pruned_set}
use Rattle.pruning.proofs.RoundLaws.{Keeps, Shrinks, settled_keep, shrunk_settled}
use Rattle.pruning.proofs.LoopLaws.{Goes}
use Rattle.pruning.proofs.LiveLaws.{live_right, live_small}

-- ---- covered events

-- some move from q to a member covers the event
abbrev Into : List Move → ℕ → ℕ → ℕ → Type 0
Into moves q set e = (r : ℕ) × Any (λ m. (m.from ≡ q) × Covers m.cell e × (m.to ≡ r)) moves × (r ∈ set)

covered_is : (moves : List Move) (q set e : ℕ) → T (covered moves q set e) ↔ Into moves q set e
covered_is [] q set e = ((λ h. absurd h), (λ (r, h, k). absurd h))
covered_is (m ∷ moves) q set e = (
  (λ h. fwd (covered_is moves q set e).0 ((TOr (Goes m q set && covers m.cell e) (covered moves q set e)).0 h)),
  (λ (r, h, k). (TOr (Goes m q set && covers m.cell e) (covered moves q set e)).1 (bwd (covered_is moves q set e).1 r h k)),
)
  where
    fwd : (T (covered moves q set e) → Into moves q set e) → T (Goes m q set && covers m.cell e) ⊎ T (covered moves q set e) → Into (m ∷ moves) q set e
    fwd ih (inl h) =
        let (g, c) = (T_and (Goes m q set) (covers m.cell e)).0 h in
        let (f, k) = (T_and (eqb m.from q) (has set m.to)).0 g in
        (m.to, inl (eqb→eq m.from q f, (covers_is m.cell e).0 c, refl), k)
    fwd ih (inr h) = let (r, step, k) = ih h in (r, inr step, k)

    bwd : (Into moves q set e → T (covered moves q set e)) → (r : ℕ) → Any (λ m. (m.from ≡ q) × Covers m.cell e × (m.to ≡ r)) (m ∷ moves) → r ∈ set
        → T (Goes m q set && covers m.cell e) ⊎ T (covered moves q set e)
    bwd ih r (inl (p, c, p')) k = inl ((T_and (Goes m q set) (covers m.cell e)).1 (
      (T_and (eqb m.from q) (has set m.to)).1 (true_T (eqb m.from q) (eq-eqb m.from q p), subst (λ (n : ℕ). n ∈ set) (sym p') k),
      (covers_is m.cell e).1 c,
    ))
    bwd ih r (inr h) k = inr (ih (r, h, k))

-- a set of all 64 events
every_is : (f : ℕ → Bool) → T (eqb (set_of 64 f) (2 ^ 64 - 1)) ↔ ((e : ℕ) → e < 64 → T (f e))
every_is f = (fwd, bwd)
  where
    fwd : T (eqb (set_of 64 f) (2 ^ 64 - 1)) → (e : ℕ) → e < 64 → T (f e)
    fwd h e l = ((∈-set_of 64 f e).0 (subst (λ (s : ℕ). e ∈ s) (sym (eqb→eq (set_of 64 f) (2 ^ 64 - 1) h)) (∈_every 64 e l))).1

    bwd : ((e : ℕ) → e < 64 → T (f e)) → T (eqb (set_of 64 f) (2 ^ 64 - 1))
    bwd all = true_T (eqb (set_of 64 f) (2 ^ 64 - 1)) (eq-eqb (set_of 64 f) (2 ^ 64 - 1) (same_members 64 (set_of 64 f) (2 ^ 64 - 1) (set_of_small 64 f) (lit< tt)
        (λ k. ((λ h. ∈_every 64 k ((∈-set_of 64 f k).0 h).0), (λ h. let l = ∈_below 64 k (2 ^ 64 - 1) (lit< tt) h in (∈-set_of 64 f k).1 (l, all k l))))))

-- ---- one round

-- the members that are kept
abbrev Stays : List Move → ℕ → ℕ → Type 0
Stays moves set q = (q < 32) × (q ∈ set) × ((e : ℕ) → e < 64 → Into moves q set e)

abbrev stays_at : List Move → ℕ → ℕ → Bool
stays_at moves set q = has set q && eqb (covered_into moves q set) (2 ^ 64 - 1)

full_is : (moves : List Move) (q set : ℕ) → T (eqb (covered_into moves q set) (2 ^ 64 - 1)) ↔ ((e : ℕ) → e < 64 → Into moves q set e)
unfolding covered_into
full_is moves q set = (
  (λ h e l. (covered_is moves q set e).0 ((every_is (covered moves q set)).0 h e l)),
  (λ all. (every_is (covered moves q set)).1 (λ e l. (covered_is moves q set e).1 (all e l))),
)

kept_is : (moves : List Move) (set q : ℕ) → (q ∈ kept moves set) ↔ Stays moves set q
unfolding kept
kept_is moves set q = (
  (λ h.
      let (low, both) = (∈-set_of 32 (stays_at moves set) q).0 h in
      let (k, full) = (T_and (has set q) (eqb (covered_into moves q set) (2 ^ 64 - 1))).0 both in
      (low, k, (full_is moves q set).0 full)),
  (λ (low, k, all). (∈-set_of 32 (stays_at moves set) q).1 (low, (T_and (has set q) (eqb (covered_into moves q set) (2 ^ 64 - 1))).1 (k, (full_is moves q set).1 all))),
)

module _ (moves : List Move) where
  pub kept_small : (set : ℕ) → kept moves set < 2 ^ 32
  unfolding kept
  kept_small set = set_of_small 32 (stays_at moves set)

  keeps : Keeps (kept moves)
  keeps set small = kept_small set

  shrinks : Shrinks (kept moves)
  shrinks set small q h = ((kept_is moves set q).0 h).1

  pub safe_fixed : (set : ℕ) → set < 2 ^ 32 → kept moves (safe_in moves set) ≡ safe_in moves set
  unfolding safe_in
  safe_fixed set small = shrunk_settled (kept moves) keeps shrinks set small

  pub safe_keep : (P : ℕ → Type 0) → ((set : ℕ) → P set → P (kept moves set)) → (set : ℕ) → P set → P (safe_in moves set)
  unfolding safe_in
  safe_keep P more set h = settled_keep (kept moves) P more set h

-- ---- the safe states

module _ (rule : Rule) (well : WellFormed rule) where
  -- live states, with every safe one among them
  abbrev Around : ℕ → Type 0
  Around set = (set < 2 ^ 32) × Subset set (live_states rule) × HoldsSafe rule set

  around_live : Around (live_states rule)
  around_live = (live_small rule well, λ q h. h, λ q s. (live_right rule well q).1 (safe_live rule q s))

  -- no round removes a safe state
  around_more : (set : ℕ) → Around set → Around (kept rule.moves set)
  around_more set (small, live, holds) = (
    kept_small rule.moves set,
    λ q h. live q (shrinks rule.moves set small q h),
    λ q (s, safe, h). (kept_is rule.moves set q).1 (
      safe_below rule q (s, safe, h),
      holds q (s, safe, h),
      λ e l. let (r, step, k) = safe.stays q e h l in (r, step, holds r (s, safe, k)),
    ),
  )

  around : Around (safe_states rule)
  around = safe_keep rule.moves Around around_more (live_states rule) around_live

  fixed : kept rule.moves (safe_states rule) ≡ safe_states rule
  fixed = safe_fixed rule.moves (live_states rule) (live_small rule well)

  stays : (q e : ℕ) → q ∈ safe_states rule → e < 64 → Into rule.moves q (safe_states rule) e
  stays q e h l = ((kept_is rule.moves (safe_states rule) q).0 (subst (λ (s : ℕ). q ∈ s) (sym fixed) h)).2 e l

  pub safe_small : safe_states rule < 2 ^ 32
  safe_small = around.0

  pub safe_state : (safe q : ℕ) → safe ≡ safe_states rule → has safe q ≡ true → q < 32
  safe_state safe q is h = below_width 32 safe q (subst (λ (s : ℕ). s < 2 ^ 32) (sym is) safe_small) h

  pub safe_right : (q : ℕ) → (q ∈ safe_states rule) ↔ Safe rule q
  safe_right = safe_is rule (safe_states rule)
      (record { small = around.0; live = λ q h. (live_right rule well q).0 (around.1 q h); stays = stays })
      around.2

  -- ---- the release state

  pub release_some : (safe_states rule ≡ 0 → ⊥) → Release rule (lowest_safe rule)
  release_some some = (
    (safe_right (count_trailing_zeros 32 (safe_states rule))).0 (true_T _ (low_member 32 (safe_states rule) (positive (eq-zero-or-pos (safe_states rule))) around.0)),
    λ p l s. false_T (has (safe_states rule) p) (low_least 32 (safe_states rule) p l) ((safe_right p).1 s),
  )
    where
      positive : (safe_states rule ≡ 0) ⊎ (0 < safe_states rule) → 0 < safe_states rule
      positive (inl e) = absurd (some e)
      positive (inr h) = h

  pub release_none : safe_states rule ≡ 0 → (q : ℕ) → Safe rule q → ⊥
  release_none e q s = ∈_none q (subst (λ (n : ℕ). q ∈ n) e ((safe_right q).1 s))

  -- ---- pruned sets

  kinds : Kinds rule (live_states rule) (safe_states rule) (lowest_safe rule)
  kinds = record {
    small = live_small rule well;
    live_is = live_right rule well;
    safe_is = safe_right;
    release_is = λ q s. release_some (λ e. release_none e q s);
  }

  -- the pruned sets of a number past the states are empty
  pub pruned_past : (q e set : ℕ) → length rule.states ≤ q → IsPrunedSet rule q e set → set ≡ 0
  pruned_past q e set past is = no_member 32 set is.small (λ t h. out t ((is.members t).0 h))
    where
      out : (t : ℕ) → Pruned rule q e t → ⊥
      out t (inl (live, unsafe, step)) = past_dead rule well q past live
      out t (inr (release, same)) = past_dead rule well q past (safe_live rule q release.0)

  pub pruned_right : (q e : ℕ) → IsPrunedSet rule q e (pruned_set rule q e)
  unfolding pruned_set
  pruned_right q e = selected_pruned rule (live_states rule) (safe_states rule) (lowest_safe rule) kinds q e
