-- Pruned sets are determined, and an event selects them from the pruned moves: to serve a state is to implement its pruned moves.
use Rattle.std.proofs.Common.{◌≡◌, ℕ, ◌^◌, ◌<◌, Bool, true, false, cond, ◌&&◌, eqb, ◌⊎◌, ◌↔◌, List, [], ◌∷◌, sym, refl, subst, inl, inr, eqb→eq}
use lib.Bits.{bit_or, or_lt}
use Rattle.std.specs.List.{AllByRecursion}
use Rattle.std.proofs.lemmas.Nat.{pow_below}
use Rattle.std.proofs.lemmas.Bool.{eq-eqb}
use Rattle.rules.specs.declared.Move.{Move}
use Rattle.events.specs.Sets.{has, ◌∈◌}
use Rattle.events.specs.Cells.{Covers, covers}
use Rattle.rules.specs.automata.Rules.{Rule, Any}
use Rattle.rules.specs.automata.Runs.{Safe}
use Rattle.rules.specs.automata.Pruning.{Release, StandsFor, Pruned, IsPrunedSet, Wants, Guarded, selected, Kinds, kept_moves, pruned_moves}
use Rattle.rules.specs.trees.Trees.{Tree, gives, Serves, Implements}
use Rattle.events.proofs.SetLaws.{true_T, false_T, T_and, ∈-or, ∈_none, ∈_one, ∈_one_is, ∈_below, same_members}
use Rattle.events.proofs.CellLaws.{covers_all, covers_is}
use Rattle.rules.proofs.automata.RunLaws.{safe_below, release_one}

-- ---- pruned sets are determined

pub pruned_one : (rule : Rule) (q e a b : ℕ) → IsPrunedSet rule q e a → IsPrunedSet rule q e b → a ≡ b
pruned_one rule q e a b ha hb = same_members 32 a b ha.small hb.small (λ t. ((λ h. (hb.members t).1 ((ha.members t).0 h)), (λ h. (ha.members t).1 ((hb.members t).0 h))))

-- ---- what an event selects

-- the state t is guarded by a cell that covers the event
abbrev pub Selects : List Guarded → ℕ → ℕ → Type 0
Selects gs e t = Any (λ g. Covers g.cell e × (t ≡ g.state)) gs

selected_step : (g : Guarded) (gs : List Guarded) (e t : ℕ) → (t ∈ selected gs e) ↔ Selects gs e t → (t ∈ selected (g ∷ gs) e) ↔ Selects (g ∷ gs) e t
selected_step g gs e t ih = go (covers g.cell e) refl
  where
    Goal : Bool → Type 0
    Goal b = (t ∈ cond b (bit_or (2 ^ g.state) (selected gs e)) (selected gs e)) ↔ Selects (g ∷ gs) e t

    on : covers g.cell e ≡ true → Goal true
    on p = ((λ h. fwd ((∈-or t (2 ^ g.state) (selected gs e)).0 h)), (λ h. (∈-or t (2 ^ g.state) (selected gs e)).1 (bwd h)))
      where
        fwd : (t ∈ 2 ^ g.state) ⊎ (t ∈ selected gs e) → Selects (g ∷ gs) e t
        fwd (inl h) = inl ((covers_is g.cell e).0 (true_T (covers g.cell e) p), ∈_one_is t g.state h)
        fwd (inr h) = inr (ih.0 h)

        bwd : Selects (g ∷ gs) e t → (t ∈ 2 ^ g.state) ⊎ (t ∈ selected gs e)
        bwd (inl (c, s)) = inl (subst (λ (k : ℕ). t ∈ 2 ^ k) s (∈_one t))
        bwd (inr h) = inr (ih.1 h)

    off : covers g.cell e ≡ false → Goal false
    off p = ((λ h. inr (ih.0 h)), bwd)
      where
        bwd : Selects (g ∷ gs) e t → t ∈ selected gs e
        bwd (inl (c, s)) = absurd (false_T (covers g.cell e) p ((covers_is g.cell e).1 c))
        bwd (inr h) = ih.1 h

    go : (b : Bool) → covers g.cell e ≡ b → Goal (covers g.cell e)
    go true p = subst Goal (sym p) (on p)
    go false p = subst Goal (sym p) (off p)

pub ∈-selected : (gs : List Guarded) (e t : ℕ) → (t ∈ selected gs e) ↔ Selects gs e t
∈-selected [] e t = (∈_none t, (λ h. absurd h))
∈-selected (g ∷ gs) e t = selected_step g gs e t (∈-selected gs e t)

pub selected_small : (gs : List Guarded) (e w : ℕ) → AllByRecursion (λ g. g.state < w) gs → selected gs e < 2 ^ w
selected_small [] e w ok = Rattle.std.proofs.lemmas.Nat.pow_pos w
selected_small (g ∷ gs) e w ok = go (covers g.cell e) (selected_small gs e w ok.1)
  where
    go : (b : Bool) → selected gs e < 2 ^ w → cond b (bit_or (2 ^ g.state) (selected gs e)) (selected gs e) < 2 ^ w
    go true h = or_lt w (2 ^ g.state) (selected gs e) (pow_below g.state w ok.0) h
    go false h = h

-- ---- the pruned moves

module _ (rule : Rule) (live safe release : ℕ) (kinds : Kinds rule live safe release) where
  -- the state that a live target stands for
  target : ℕ → ℕ
  target r = cond (has safe r) release r

  pub stands : (r t : ℕ) → r ∈ live → t ≡ cond (has safe r) release r → StandsFor rule r t
  stands r t l e = ((kinds.live_is r).0 l, go (has safe r) refl e)
    where
      go : (b : Bool) → has safe r ≡ b → t ≡ cond b release r → ((Safe rule r → ⊥) × (t ≡ r)) ⊎ (Safe rule r × Release rule t)
      go true p e = let s = (kinds.safe_is r).0 (true_T (has safe r) p) in inr (s, subst (Release rule) (sym e) (kinds.release_is r s))
      go false p e = inl ((λ s. false_T (has safe r) p ((kinds.safe_is r).1 s)), e)

  pub stood : (r t : ℕ) → StandsFor rule r t → (r ∈ live) × (t ≡ cond (has safe r) release r)
  stood r t (l, k) = ((kinds.live_is r).1 l, go (has safe r) refl k)
    where
      go : (b : Bool) → has safe r ≡ b → ((Safe rule r → ⊥) × (t ≡ r)) ⊎ (Safe rule r × Release rule t) → t ≡ cond b release r
      go true p (inl (n, e)) = absurd (n ((kinds.safe_is r).0 (true_T (has safe r) p)))
      go true p (inr (s, rel)) = release_one rule t release rel (kinds.release_is r s)
      go false p (inl (n, e)) = e
      go false p (inr (s, rel)) = absurd (false_T (has safe r) p ((kinds.safe_is r).1 s))

  kept_fwd : (moves : List Move) (q e t : ℕ) → Selects (kept_moves live safe release q moves) e t
      → (r : ℕ) × Any (λ m. (m.from ≡ q) × Covers m.cell e × (m.to ≡ r)) moves × StandsFor rule r t
  kept_fwd [] q e t h = absurd h
  kept_fwd (m ∷ moves) q e t h = go (eqb m.from q && has live m.to) refl h (kept_fwd moves q e t)
    where
      go : (b : Bool) → eqb m.from q && has live m.to ≡ b
          → Selects (cond b (record { cell = m.cell; state = cond (has safe m.to) release m.to } ∷ kept_moves live safe release q moves) (kept_moves live safe release q moves)) e t
          → (Selects (kept_moves live safe release q moves) e t → (r : ℕ) × Any (λ m. (m.from ≡ q) × Covers m.cell e × (m.to ≡ r)) moves × StandsFor rule r t)
          → (r : ℕ) × Any (λ m. (m.from ≡ q) × Covers m.cell e × (m.to ≡ r)) (m ∷ moves) × StandsFor rule r t
      go true p (inl (c, s)) ih =
          let both = true_T (eqb m.from q && has live m.to) p in
          (m.to, inl (eqb→eq m.from q ((T_and (eqb m.from q) (has live m.to)).0 both).0, c, refl), stands m.to t ((T_and (eqb m.from q) (has live m.to)).0 both).1 s)
      go true p (inr h) ih = let (r, step, st) = ih h in (r, inr step, st)
      go false p h ih = let (r, step, st) = ih h in (r, inr step, st)

  kept_bwd : (moves : List Move) (q e t r : ℕ) → Any (λ m. (m.from ≡ q) × Covers m.cell e × (m.to ≡ r)) moves → StandsFor rule r t
      → Selects (kept_moves live safe release q moves) e t
  kept_bwd [] q e t r h st = absurd h
  kept_bwd (m ∷ moves) q e t r h st = go (eqb m.from q && has live m.to) refl h (λ k. kept_bwd moves q e t r k st)
    where
      go : (b : Bool) → eqb m.from q && has live m.to ≡ b → Any (λ m. (m.from ≡ q) × Covers m.cell e × (m.to ≡ r)) (m ∷ moves)
          → (Any (λ m. (m.from ≡ q) × Covers m.cell e × (m.to ≡ r)) moves → Selects (kept_moves live safe release q moves) e t)
          → Selects (cond b (record { cell = m.cell; state = cond (has safe m.to) release m.to } ∷ kept_moves live safe release q moves) (kept_moves live safe release q moves)) e t
      go true p (inl (f, c, g)) ih = inl (c, subst (λ (k : ℕ). t ≡ cond (has safe k) release k) (sym g) (stood r t st).1)
      go true p (inr k) ih = inr (ih k)
      go false p (inl (f, c, g)) ih = absurd (false_T (eqb m.from q && has live m.to) p
          ((T_and (eqb m.from q) (has live m.to)).1 (true_T (eqb m.from q) (eq-eqb m.from q f), subst (λ (k : ℕ). k ∈ live) (sym g) (stood r t st).0)))
      go false p (inr k) ih = ih k

  pruned_fwd : (q e t : ℕ) → Selects (pruned_moves rule live safe release q) e t → Pruned rule q e t
  pruned_fwd q e t h = go (has safe q) refl (eqb q release) refl (has live q) refl h
    where
      go : (a : Bool) → has safe q ≡ a → (b : Bool) → eqb q release ≡ b → (c : Bool) → has live q ≡ c
          → Selects (cond a (cond b (record { cell = 0; state = q } ∷ []) []) (cond c (kept_moves live safe release q rule.moves) [])) e t → Pruned rule q e t
      go true p true p' c p'' (inl (x, s)) =
          inr (subst (Release rule) (sym (eqb→eq q release (true_T (eqb q release) p'))) (kinds.release_is q ((kinds.safe_is q).0 (true_T (has safe q) p))), s)
      go true p true p' c p'' (inr h) = absurd h
      go true p false p' c p'' h = absurd h
      go false p b p' true p'' h =
          inl ((kinds.live_is q).0 (true_T (has live q) p''), (λ s. false_T (has safe q) p ((kinds.safe_is q).1 s)), kept_fwd rule.moves q e t h)
      go false p b p' false p'' h = absurd h

  pruned_bwd : (q e t : ℕ) → Pruned rule q e t → Selects (pruned_moves rule live safe release q) e t
  pruned_bwd q e t h = go (has safe q) refl (eqb q release) refl (has live q) refl h
    where
      go : (a : Bool) → has safe q ≡ a → (b : Bool) → eqb q release ≡ b → (c : Bool) → has live q ≡ c → Pruned rule q e t
          → Selects (cond a (cond b (record { cell = 0; state = q } ∷ []) []) (cond c (kept_moves live safe release q rule.moves) [])) e t
      go true p b p' c p'' (inl (l, n, x)) = absurd (n ((kinds.safe_is q).0 (true_T (has safe q) p)))
      go true p true p' c p'' (inr (rel, s)) = inl (covers_all e, s)
      go true p false p' c p'' (inr (rel, s)) =
          absurd (false_T (eqb q release) p' (true_T (eqb q release) (eq-eqb q release (release_one rule q release rel (kinds.release_is q rel.0)))))
      go false p b p' true p'' (inl (l, n, (r, step, st))) = kept_bwd rule.moves q e t r step st
      go false p b p' false p'' (inl (l, n, x)) = absurd (false_T (has live q) p'' ((kinds.live_is q).1 l))
      go false p b p' c p'' (inr (rel, s)) = absurd (false_T (has safe q) p ((kinds.safe_is q).1 rel.0))

  kept_small : (moves : List Move) (q : ℕ) → AllByRecursion (λ g. g.state < 32) (kept_moves live safe release q moves)
  kept_small [] q = tt
  kept_small (m ∷ moves) q = go (eqb m.from q && has live m.to) refl (kept_small moves q)
    where
      low : m.to ∈ live → (b : Bool) → has safe m.to ≡ b → cond b release m.to < 32
      low l true p = safe_below rule release (kinds.release_is m.to ((kinds.safe_is m.to).0 (true_T (has safe m.to) p))).0
      low l false p = ∈_below 32 m.to live kinds.small l

      go : (b : Bool) → eqb m.from q && has live m.to ≡ b → AllByRecursion (λ g. g.state < 32) (kept_moves live safe release q moves)
          → AllByRecursion (λ g. g.state < 32) (cond b (record { cell = m.cell; state = cond (has safe m.to) release m.to } ∷ kept_moves live safe release q moves) (kept_moves live safe release q moves))
      go true p ih = (low ((T_and (eqb m.from q) (has live m.to)).0 (true_T (eqb m.from q && has live m.to) p)).1 (has safe m.to) refl, ih)
      go false p ih = ih

  pruned_small : (q : ℕ) → AllByRecursion (λ g. g.state < 32) (pruned_moves rule live safe release q)
  pruned_small q = go (has safe q) refl (eqb q release) (has live q)
    where
      go : (a : Bool) → has safe q ≡ a → (b c : Bool)
          → AllByRecursion (λ g. g.state < 32) (cond a (cond b (record { cell = 0; state = q } ∷ []) []) (cond c (kept_moves live safe release q rule.moves) []))
      go true p true c = (safe_below rule q ((kinds.safe_is q).0 (true_T (has safe q) p)), tt)
      go true p false c = tt
      go false p b true = kept_small rule.moves q
      go false p b false = tt

  -- the set that an event selects from the pruned moves is the pruned set
  pub selected_pruned : (q e : ℕ) → IsPrunedSet rule q e (selected (pruned_moves rule live safe release q) e)
  selected_pruned q e = record {
    small = selected_small (pruned_moves rule live safe release q) e 32 (pruned_small q);
    members = λ t. (
      (λ h. pruned_fwd q e t ((∈-selected (pruned_moves rule live safe release q) e t).0 h)),
      (λ h. (∈-selected (pruned_moves rule live safe release q) e t).1 (pruned_bwd q e t h)),
    );
  }

  pub selected_wanted : (q : ℕ) → Wants rule q (selected (pruned_moves rule live safe release q))
  selected_wanted q e l = selected_pruned q e

  -- a tree serves a state just when it implements the state's pruned moves
  pub serves_implements : (q : ℕ) (t : Tree) → Serves rule q t ↔ Implements t (pruned_moves rule live safe release q)
  serves_implements q t = (
    (λ h e l. pruned_one rule q e (gives t e) (selected (pruned_moves rule live safe release q) e) (h e l) (selected_pruned q e)),
    (λ h e l. subst (IsPrunedSet rule q e) (sym (h e l)) (selected_pruned q e)),
  )
