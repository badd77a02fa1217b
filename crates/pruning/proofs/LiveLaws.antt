-- The states computed by widening are those that reach a set, and so the live states of a well-formed rule.
use Rattle.std.proofs.Common.{◌≡◌, ℕ, ◌^◌, ◌<◌, Bool, true, false, not, ◌&&◌, ◌||◌, T, eqb, ◌⊎◌, ◌↔◌, List, [], ◌∷◌, length, get_or, sym, refl, ap, ◌∙◌, subst, ap₂, inl, inr, arith, eqb→eq}
use mathlib.Core.Path.{fun_ext}
use lib.Bits.{bit_and}
use Rattle.std.proofs.lemmas.Nat.{pow_below}
use Rattle.std.proofs.lemmas.Bool.{eq-eqb, ne_eqb}
use Rattle.events.specs.Sets.{has, set_of, ◌∈◌, Subset}
use Rattle.events.proofs.SetLaws.{true_T, TOr, T_and, ∈-set_of, set_of_small, ∈_below, ∈_some_in, ∈_none_in, ∈_one, ∈_one_is}
use Rattle.rules.specs.declared.Move.{Move}
use Rattle.rules.specs.declared.State.{State}
use Rattle.rules.specs.automata.Rules.{Rule, Any, Accepts, StateWith, WellFormed}
use Rattle.rules.specs.automata.Runs.{Live}
use Rattle.rules.proofs.automata.MaskLaws.{Edge, Way, ReachesInto, into_more, reach_is, Turns, live_is, edge_is}
use Rattle.rules.proofs.automata.RuleLaws.{state_at_lem, step_below}
use Rattle.pruning.specs.Computed.{meets, entry, leads, targets, accepting, widened, reaching, turning, live_in, live_states}
use Rattle.pruning.proofs.RoundLaws.{Keeps, Grows, settled_keep, grown_settled}
use Rattle.pruning.proofs.LoopLaws.{targets_small}

-- ---- sets with a common member

pub meets_is : (a b : ℕ) → a < 2 ^ 32 → T (meets a b) ↔ ((r : ℕ) × (r ∈ a) × (r ∈ b))
meets_is a b small = (fwd (eqb (bit_and a b) 0) refl, bwd)
  where
    fwd : (t : Bool) → eqb (bit_and a b) 0 ≡ t → T (not t) → (r : ℕ) × (r ∈ a) × (r ∈ b)
    fwd true e h = absurd h
    fwd false e h = let s = ∈_some_in 32 a b small (λ z. subst T (sym (eq-eqb (bit_and a b) 0 z) ∙ e) tt) in (s.0, s.2, s.3)

    bwd : (r : ℕ) × (r ∈ a) × (r ∈ b) → T (meets a b)
    bwd (r, h, k) = true_T (meets a b) (ap not (ne_eqb (bit_and a b) 0 (λ z. ∈_none_in a b r z h k)))

-- ---- one round

-- the members of a widened set
abbrev Wider : (ℕ → ℕ) → ℕ → ℕ → Type 0
Wider edges set q = (q < 32) × ((q ∈ set) ⊎ T (meets (edges q) set))

widened_is : (edges : ℕ → ℕ) (set q : ℕ) → (q ∈ widened edges set) ↔ Wider edges set q
unfolding widened
widened_is edges set q =
    let is = ∈-set_of 32 (λ q. has set q || meets (edges q) set) q in (
      (λ h. let p = is.0 h in (p.0, (TOr (has set q) (meets (edges q) set)).0 p.1)),
      (λ h. is.1 (h.0, (TOr (has set q) (meets (edges q) set)).1 h.1)),
    )

-- the set of the states that a test finds is that of the states with what it tests
pub flagged_is : (flag : State → Bool) (states : List State) (q : ℕ)
    → (q ∈ set_of (length states) (λ k. flag (get_or states k (record { start = false; accepting = false })))) ↔ StateWith (λ s. T (flag s)) states q
flagged_is flag states q =
    let at = state_at_lem (λ s. T (flag s)) states (record { start = false; accepting = false }) q in
    let set = ∈-set_of (length states) (λ k. flag (get_or states k (record { start = false; accepting = false }))) q in
    ((λ h. at.1 (set.0 h)), (λ h. set.1 (at.0 h)))

pub widened_small : (edges : ℕ → ℕ) (set : ℕ) → widened edges set < 2 ^ 32
unfolding widened
widened_small edges set = set_of_small 32 (λ q. has set q || meets (edges q) set)

module _ (edges : ℕ → ℕ) where
  keeps : Keeps (widened edges)
  keeps set small = widened_small edges set

  grows : Grows (widened edges)
  grows set small q h = (widened_is edges set q).1 (∈_below 32 q set small h, inl h)

  pub reaching_fixed : (set : ℕ) → set < 2 ^ 32 → widened edges (reaching edges set) ≡ reaching edges set
  unfolding reaching
  reaching_fixed set small = grown_settled (widened edges) keeps grows set small

  -- what holds of the seed, and is kept by each round
  pub reaching_keep : (P : ℕ → Type 0) → ((set : ℕ) → P set → P (widened edges set)) → (set : ℕ) → P set → P (reaching edges set)
  unfolding reaching
  reaching_keep P more set h = settled_keep (widened edges) P more set h

  pub reaching_small : (set : ℕ) → set < 2 ^ 32 → reaching edges set < 2 ^ 32
  reaching_small set small = reaching_keep (λ s. s < 2 ^ 32) (λ s l. widened_small edges s) set small

  seed_in : (seed : ℕ) → seed < 2 ^ 32 → Subset seed (reaching edges seed)
  seed_in seed small = (reaching_keep (λ s. (s < 2 ^ 32) × Subset seed s) (λ s h. (widened_small edges s, λ q k. grows s h.0 q (h.1 q k))) seed (small, λ q h. h)).1

-- ---- edges

leads_is : (moves : List Move) (q r : ℕ) → T (leads moves q r) ↔ Any (λ m. (m.from ≡ q) × (m.to ≡ r)) moves
leads_is [] q r = ((λ h. h), (λ h. h))
leads_is (m ∷ moves) q r = (
  (λ h. fwd (leads_is moves q r).0 ((TOr (eqb m.from q && eqb m.to r) (leads moves q r)).0 h)),
  (λ h. (TOr (eqb m.from q && eqb m.to r) (leads moves q r)).1 (bwd (leads_is moves q r).1 h)),
)
  where
    fwd : (T (leads moves q r) → Any (λ m. (m.from ≡ q) × (m.to ≡ r)) moves) → T (eqb m.from q && eqb m.to r) ⊎ T (leads moves q r)
        → Any (λ m. (m.from ≡ q) × (m.to ≡ r)) (m ∷ moves)
    fwd ih (inl h) = let p = (T_and (eqb m.from q) (eqb m.to r)).0 h in inl (eqb→eq m.from q p.0, eqb→eq m.to r p.1)
    fwd ih (inr h) = inr (ih h)

    bwd : (Any (λ m. (m.from ≡ q) × (m.to ≡ r)) moves → T (leads moves q r)) → Any (λ m. (m.from ≡ q) × (m.to ≡ r)) (m ∷ moves)
        → T (eqb m.from q && eqb m.to r) ⊎ T (leads moves q r)
    bwd ih (inl (p, p')) = inl ((T_and (eqb m.from q) (eqb m.to r)).1 (true_T (eqb m.from q) (eq-eqb m.from q p), true_T (eqb m.to r) (eq-eqb m.to r p')))
    bwd ih (inr h) = inr (ih h)

module _ (rule : Rule) (well : WellFormed rule) where
  edge_below : (q r : ℕ) → Edge rule q r → (q < 32) × (r < 32)
  edge_below q r (e, ok, step) =
      let both = step_below rule well q e r step in
      (omega (arith, both.0, well.few_states), omega (arith, both.1, well.few_states))

  pub target_is : (q r : ℕ) → (r ∈ targets rule.moves q) ↔ Edge rule q r
  unfolding targets
  target_is q r = (
    (λ h. (edge_is rule q r).0 ((leads_is rule.moves q r).0 ((∈-set_of 32 (leads rule.moves q) r).0 h).1)),
    (λ h. (∈-set_of 32 (leads rule.moves q) r).1 ((edge_below q r h).1, (leads_is rule.moves q r).1 ((edge_is rule q r).1 h))),
  )

  -- ---- the states that reach a set

  closed : (seed : ℕ) → seed < 2 ^ 32 → (q r : ℕ) → Edge rule q r → r ∈ reaching (targets rule.moves) seed → q ∈ reaching (targets rule.moves) seed
  closed seed small q r edge h =
      subst (λ (s : ℕ). q ∈ s) (reaching_fixed (targets rule.moves) seed small)
      ((widened_is (targets rule.moves) (reaching (targets rule.moves) seed) q).1 (
        (edge_below q r edge).0,
        inr ((meets_is (targets rule.moves q) (reaching (targets rule.moves) seed) (targets_small rule.moves q)).1 (r, (target_is q r).1 edge, h)),
      ))

  -- each member reaches the seed
  abbrev Sound : ℕ → ℕ → Type 0
  Sound seed set = (q : ℕ) → q ∈ set → ReachesInto rule seed q

  sound_more : (seed set : ℕ) → Sound seed set → Sound seed (widened (targets rule.moves) set)
  sound_more seed set sound q h = go ((widened_is (targets rule.moves) set q).0 h).1
    where
      go : (q ∈ set) ⊎ T (meets (targets rule.moves q) set) → ReachesInto rule seed q
      go (inl k) = sound q k
      go (inr m) =
          let (r, edge, k) = (meets_is (targets rule.moves q) set (targets_small rule.moves q)).0 m in
          into_more rule seed q r ((target_is q r).0 edge) (sound r k)

  pub reaching_is : (seed : ℕ) → seed < 2 ^ 32 → (q : ℕ) → (q ∈ reaching (targets rule.moves) seed) ↔ ReachesInto rule seed q
  reaching_is seed small = reach_is rule seed (reaching (targets rule.moves) seed) (seed_in (targets rule.moves) seed small) (closed seed small)
      (reaching_keep (targets rule.moves) (Sound seed) (sound_more seed) seed (λ q h. (q, h, ([], tt, refl))))

  -- ---- accepting states, and those that moves lead back to

  pub accepting_is : (q : ℕ) → (q ∈ accepting rule.states) ↔ Accepts rule q
  unfolding accepting
  accepting_is = flagged_is (λ s. s.accepting) rule.states

  accepts_below : (q : ℕ) → Accepts rule q → q < 32
  accepts_below q h = omega (arith, ((state_at_lem (λ s. T s.accepting) rule.states (record { start = false; accepting = false }) q).0 h).0, well.few_states)

  abbrev turns_at : ℕ → Bool
  turns_at q = has (accepting rule.states) q && meets (targets rule.moves q) (reaching (targets rule.moves) (2 ^ q))

  turning_fwd : (a : ℕ) → (a < 32) × T (turns_at a) → Turns rule a
  turning_fwd a (low, h) =
      let (acc, m) = (T_and (has (accepting rule.states) a) (meets (targets rule.moves a) (reaching (targets rule.moves) (2 ^ a)))).0 h in
      let (r, edge, k) = (meets_is (targets rule.moves a) (reaching (targets rule.moves) (2 ^ a)) (targets_small rule.moves a)).0 m in
      let (t, one, way) = (reaching_is (2 ^ a) (pow_below a 32 low) r).0 k in
      ((accepting_is a).0 acc, (r, (target_is a r).0 edge, subst (Way rule r) (∈_one_is t a one) way))

  turning_bwd : (a : ℕ) → Turns rule a → (a < 32) × T (turns_at a)
  turning_bwd a (acc, (r, edge, way)) =
      let low = accepts_below a acc in (
        low,
        (T_and (has (accepting rule.states) a) (meets (targets rule.moves a) (reaching (targets rule.moves) (2 ^ a)))).1 (
          (accepting_is a).1 acc,
          (meets_is (targets rule.moves a) (reaching (targets rule.moves) (2 ^ a)) (targets_small rule.moves a)).1 (r, (target_is a r).1 edge, (reaching_is (2 ^ a) (pow_below a 32 low) r).1 (a, ∈_one a, way)),
        ),
      )

  turning_is : (a : ℕ) → (a ∈ turning (targets rule.moves) (accepting rule.states)) ↔ Turns rule a
  unfolding turning
  turning_is a = (
    (λ h. turning_fwd a ((∈-set_of 32 turns_at a).0 h)),
    (λ h. (∈-set_of 32 turns_at a).1 (turning_bwd a h)),
  )

  turning_small : turning (targets rule.moves) (accepting rule.states) < 2 ^ 32
  unfolding turning
  turning_small = set_of_small 32 turns_at

  -- ---- the live states

  pub live_small : live_states rule < 2 ^ 32
  unfolding live_states
  live_small = reaching_small (targets rule.moves) (turning (targets rule.moves) (accepting rule.states)) turning_small

  pub live_right : (q : ℕ) → (q ∈ live_states rule) ↔ Live rule q
  unfolding live_states
  live_right =
      live_is rule (turning (targets rule.moves) (accepting rule.states)) (reaching (targets rule.moves) (turning (targets rule.moves) (accepting rule.states)))
      turning_is (reaching_is (turning (targets rule.moves) (accepting rule.states)) turning_small)

-- from the masks of the edges and the set of accepting states
pub live_from : (rule : Rule) (moves : List Move) (states : List State) (masks : List ℕ) (accepts r : ℕ) → moves ≡ rule.moves → states ≡ rule.states
    → ((q : ℕ) → get_or masks q 0 ≡ targets moves q) → accepts ≡ accepting states → r ≡ live_in (entry masks) accepts → r ≡ live_states rule
unfolding live_states
live_from rule moves states masks accepts r em es are ea is =
    is ∙ ap₂ (λ (f : ℕ → ℕ) (a : ℕ). live_in f a) (fun_ext are ∙ ap targets em) (ea ∙ ap accepting es)
