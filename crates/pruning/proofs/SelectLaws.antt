-- What an event selects from the moves so far, one move at a time.
use Rattle.std.proofs.Common.{◌≡◌, ℕ, ◌+◌, ◌^◌, ◌<◌, ◌≤◌, Bool, true, false, cond, ◌&&◌, ◌||◌, T, eqb, ◌⊎◌, List, [], ◌∷◌, length, get_or, Some, None, Option, sym, refl, ap, ◌∙◌, subst, ap₂, inl, inr, arith}
use lib.Bits.{bit_or, or_zero_r}
use lib.Count.{count_trailing_zeros}
use Rattle.std.specs.List.{AllByRecursion, list_any}
use Rattle.std.specs.Option.{option_eq}
use Rattle.std.proofs.lemmas.List.{take_all}
use Rattle.std.proofs.lemmas.Nat.{pow_below}
use Rattle.std.proofs.lemmas.Bool.{cases_lt, eqb-true, eqb-false, ne_eqb}
use Rattle.events.specs.Cells.{covers}
use Rattle.events.specs.Sets.{has}
use Rattle.events.proofs.CellLaws.{covers_all, covers_is}
use Rattle.events.proofs.LowestLaws.{low_least, low_none}
use Rattle.events.proofs.SetLaws.{T_true, has-or, has_one, has_none, same_mask}
use Rattle.rules.specs.declared.Move.{Move}
use Rattle.rules.specs.automata.Rules.{Rule}
use Rattle.rules.specs.automata.Pruning.{Guarded, selected, kept_moves}
use Rattle.rules.proofs.automata.PruningLaws.{selected_small}
use Rattle.pruning.proofs.LoopLaws.{Gathered, gathered_more, gathered_same, Goes, Covering, known}
use Rattle.pruning.specs.Computed.{Ranged, selected_kept, live_states, safe_states, pruned_set}

-- ---- the lowest member, if any

abbrev first_of : ℕ → Bool → Option ℕ
first_of set none = cond none None (Some (count_trailing_zeros 32 set))

pub first_none : (set q : ℕ) (r : Option ℕ) → r ≡ first_of set (eqb set 0) → r ≡ None → has set q ≡ false
first_none set q r is none = go (eqb set 0) refl (sym is ∙ none)
  where
    go : (b : Bool) → eqb set 0 ≡ b → first_of set b ≡ None → has set q ≡ false
    go true e h = ap (λ (s : ℕ). has s q) (eqb-true set 0 e) ∙ has_none q
    go false e h = cc

pub first_other : (set q : ℕ) (r : Option ℕ) → q < 32 → r ≡ first_of set (eqb set 0) → option_eq eqb r (Some q) ≡ false → 0 ≡ cond (eqb q (count_trailing_zeros 32 set)) (2 ^ q) 0
first_other set q r l is other = sym (ap (λ (b : Bool). cond b (2 ^ q) 0) (ne_eqb q (count_trailing_zeros 32 set) (differs (eqb set 0) refl (ap (λ o. option_eq eqb o (Some q)) (sym is) ∙ other))))
  where
    differs : (b : Bool) → eqb set 0 ≡ b → option_eq eqb (first_of set b) (Some q) ≡ false → q ≡ count_trailing_zeros 32 set → ⊥
    differs true e h same =
        let top : count_trailing_zeros 32 set ≡ 32 = ap (count_trailing_zeros 32) (eqb-true set 0 e) ∙ low_none 32 in
        omega (arith, same, top, l)
    differs false e h same = eqb-false (count_trailing_zeros 32 set) q h (sym same)

-- ---- what a live target stands for is a state

pub stand_below : (safe to : ℕ) → to < 32 → cond (has safe to) (count_trailing_zeros 32 safe) to < 32
stand_below safe to low = go (has safe to) refl
  where
    go : (b : Bool) → has safe to ≡ b → cond b (count_trailing_zeros 32 safe) to < 32
    go false p = low
    go true p = at (cases_lt to (count_trailing_zeros 32 safe))
      where
        at : (to < count_trailing_zeros 32 safe) ⊎ (count_trailing_zeros 32 safe ≤ to) → count_trailing_zeros 32 safe < 32
        at (inl l) = absurd (subst T (sym p ∙ low_least 32 safe to l) tt)
        at (inr l) = omega (arith, low)

-- and its set has it alone
pub target_is : (safe to stands r : ℕ) → to < 32 → stands ≡ cond (has safe to) (count_trailing_zeros 32 safe) to → (stands < 32 → r ≡ 2 ^ stands)
    → r ≡ 2 ^ cond (has safe to) (count_trailing_zeros 32 safe) to
target_is safe to stands r low is one = one (subst (λ (n : ℕ). n < 32) (sym is) (stand_below safe to low)) ∙ ap (λ (n : ℕ). 2 ^ n) is

-- ---- the moves so far

module _ (live safe q : ℕ) where
  -- what the target of a move stands for
  abbrev target : Move → ℕ
  target m = cond (has safe m.to) (count_trailing_zeros 32 safe) m.to

  -- whether an event selects the state t from a move
  abbrev pub Selects : ℕ → Move → ℕ → Bool
  Selects e m t = Covering q live m e && eqb t (target m)

  abbrev kept : List Move → List Guarded
  kept moves = kept_moves live safe (count_trailing_zeros 32 safe) q moves

  selected-has : (moves : List Move) (e t : ℕ) → has (selected (kept moves) e) t ≡ list_any (λ m. Selects e m t) moves
  selected-has [] e t = has_none t
  selected-has (m ∷ moves) e t = go (Goes m q live) (selected-has moves e t)
    where
      on : (b : Bool) → has (selected (kept moves) e) t ≡ list_any (λ m. Selects e m t) moves
          → has (cond b (bit_or (2 ^ target m) (selected (kept moves) e)) (selected (kept moves) e)) t ≡ ((b && eqb t (target m)) || list_any (λ m. Selects e m t) moves)
      on true ih = has-or (2 ^ target m) (selected (kept moves) e) t ∙ ap₂ (λ (a b : Bool). a || b) (has_one (target m) t) ih
      on false ih = ih

      go : (b : Bool) → has (selected (kept moves) e) t ≡ list_any (λ m. Selects e m t) moves
          → has (selected (cond b (record { cell = m.cell; state = target m } ∷ kept moves) (kept moves)) e) t ≡ (((b && covers m.cell e) && eqb t (target m)) || list_any (λ m. Selects e m t) moves)
      go true ih = on (covers m.cell e) ih
      go false ih = ih

  kept_below : (moves : List Move) → Ranged moves → AllByRecursion (λ g. g.state < 32) (kept moves)
  kept_below [] h = tt
  kept_below (m ∷ moves) h = go (Goes m q live) (kept_below moves h.1)
    where
      go : (b : Bool) → AllByRecursion (λ g. g.state < 32) (kept moves) → AllByRecursion (λ g. g.state < 32) (cond b (record { cell = m.cell; state = target m } ∷ kept moves) (kept moves))
      go true ih = (stand_below safe m.to h.0.enters, ih)
      go false ih = ih

  module _ (moves : List Move) (e i set : ℕ) where
    -- a move that is kept, on a cell that covers the event, adds what its target stands for
    pub selected_more : (d : Move) → i < length moves → Gathered 32 (Selects e) moves i set → (new : ℕ) → (get_or moves i d).to < 32 → new ≡ 2 ^ target (get_or moves i d)
        → Covering q live (get_or moves i d) e ≡ true → Gathered 32 (Selects e) moves (i + 1) (bit_or set new)
    selected_more d l inv new low is on = gathered_more 32 (Selects e) moves i set d l inv new
        (subst (λ (n : ℕ). n < 2 ^ 32) (sym is) (pow_below (target (get_or moves i d)) 32 (stand_below safe (get_or moves i d).to low)))
        (λ t h. ap (λ (n : ℕ). has n t) is ∙ has_one (target (get_or moves i d)) t ∙ sym (known (Covering q live (get_or moves i d) e) true (eqb t (target (get_or moves i d))) on))

    -- and any other move adds nothing
    pub selected_same : (d : Move) → i < length moves → Gathered 32 (Selects e) moves i set → Covering q live (get_or moves i d) e ≡ false → Gathered 32 (Selects e) moves (i + 1) set
    selected_same d l inv off = gathered_same 32 (Selects e) moves i set d l inv (λ t h. known (Covering q live (get_or moves i d) e) false (eqb t (target (get_or moves i d))) off)

    -- the same of a move that is kept, whether its cell covers the event or not
    pub selected_by : (d : Move) → i < length moves → Gathered 32 (Selects e) moves i set → (new : ℕ) → (get_or moves i d).to < 32 → new ≡ 2 ^ target (get_or moves i d)
        → Goes (get_or moves i d) q live ≡ true → (r : ℕ) → r ≡ cond (covers (get_or moves i d).cell e) (bit_or set new) set → Gathered 32 (Selects e) moves (i + 1) r
    selected_by d l inv new low is goes r is-r = subst (Gathered 32 (Selects e) moves (i + 1)) (sym is-r) (go (covers (get_or moves i d).cell e) refl)
      where
        both : (b : Bool) → covers (get_or moves i d).cell e ≡ b → Covering q live (get_or moves i d) e ≡ b
        both b p = ap₂ (λ (x y : Bool). x && y) goes p

        go : (b : Bool) → covers (get_or moves i d).cell e ≡ b → Gathered 32 (Selects e) moves (i + 1) (cond b (bit_or set new) set)
        go true p = selected_more d l inv new low is (both true p)
        go false p = selected_same d l inv (both false p)

    pub selected_all : Ranged moves → length moves ≤ i → Gathered 32 (Selects e) moves i set → set ≡ selected_kept moves live safe (count_trailing_zeros 32 safe) q e
    unfolding selected_kept
    selected_all ranged l inv = same_mask 32 set (selected (kept moves) e) inv.small (selected_small (kept moves) e 32 (kept_below moves ranged))
        (λ t h. inv.members t h ∙ ap (list_any (λ m. Selects e m t)) (take_all i moves l) ∙ sym (selected-has moves e t))

-- ---- the pruned set of a safe, a live and a dead state

covers-whole : (e : ℕ) → covers 0 e ≡ true
covers-whole e = T_true (covers 0 e) ((covers_is 0 e).1 (covers_all e))

whole : (q e : ℕ) → selected (record { cell = 0; state = q } ∷ []) e ≡ 2 ^ q
whole q e = ap (λ (b : Bool). cond b (bit_or (2 ^ q) 0) 0) (covers-whole e) ∙ or_zero_r (2 ^ q)

-- which of the three it is
abbrev by_kind : Rule → ℕ → ℕ → ℕ → ℕ → Bool → Bool → ℕ
by_kind rule live safe q e isSafe isLive =
    selected (cond isSafe (cond (eqb q (count_trailing_zeros 32 safe)) (record { cell = 0; state = q } ∷ []) []) (cond isLive (kept_moves live safe (count_trailing_zeros 32 safe) q rule.moves) [])) e

pruned_by : (rule : Rule) (live safe q e : ℕ) (isSafe isLive : Bool) → live ≡ live_states rule → safe ≡ safe_states rule → has safe q ≡ isSafe → has live q ≡ isLive
    → pruned_set rule q e ≡ by_kind rule live safe q e isSafe isLive
unfolding pruned_set
pruned_by rule live safe q e isSafe isLive el es hs hl =
    ap₂ (λ (l s : ℕ). by_kind rule l s q e (has s q) (has l q)) (sym el) (sym es) ∙ ap₂ (λ (a b : Bool). by_kind rule live safe q e a b) hs hl

pub pruned_safe : (rule : Rule) (safe q e r : ℕ) → safe ≡ safe_states rule → has safe q ≡ true → r ≡ cond (eqb q (count_trailing_zeros 32 safe)) (2 ^ q) 0 → r ≡ pruned_set rule q e
pruned_safe rule safe q e r es hs is = is ∙ go (eqb q (count_trailing_zeros 32 safe)) ∙ sym (pruned_by rule (live_states rule) safe q e true (has (live_states rule) q) refl es hs refl)
  where
    go : (b : Bool) → cond b (2 ^ q) 0 ≡ selected (cond b (record { cell = 0; state = q } ∷ []) []) e
    go true = sym (whole q e)
    go false = refl

pub pruned_live : (rule : Rule) (live safe q e r : ℕ) → live ≡ live_states rule → safe ≡ safe_states rule → has safe q ≡ false → has live q ≡ true
    → r ≡ selected_kept rule.moves live safe (count_trailing_zeros 32 safe) q e → r ≡ pruned_set rule q e
unfolding selected_kept
pruned_live rule live safe q e r el es hs hl is = is ∙ sym (pruned_by rule live safe q e false true el es hs hl)

pub pruned_dead : (rule : Rule) (live safe q e : ℕ) → live ≡ live_states rule → safe ≡ safe_states rule → has safe q ≡ false → has live q ≡ false → 0 ≡ pruned_set rule q e
pruned_dead rule live safe q e el es hs hl = sym (pruned_by rule live safe q e false false el es hs hl)
