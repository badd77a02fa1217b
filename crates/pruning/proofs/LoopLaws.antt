-- The steps of the loops that gather sets of states and events.
use Rattle.std.proofs.Common.{◌≡◌, ℕ, zero, suc, ◌+◌, ◌^◌, ◌<◌, ◌≤◌, Bool, true, false, ◌&&◌, ◌||◌, eqb, ltb, ◌⊎◌, List, map, length, get_or, take, set, replicate, sym, refl, ap, ◌∙◌, subst, ap₂, inl, inr, arith, length-set, get_or-set_other, get_or-set_same}
use lib.Bits.{bit_or, or_lt}
use Rattle.std.specs.List.{slice_get, list_any}
use Rattle.std.specs.Option.{MatchOption}
use Rattle.std.proofs.Math.Bool.{or-false}
use Rattle.std.proofs.Math.Pow.{pow_mono}
use Rattle.std.proofs.lemmas.Nat.{pow_below, pow_pos}
use Rattle.std.proofs.lemmas.List.{take_all, length-map, get_or-map}
use Rattle.std.proofs.lemmas.List.Folds.{list_any_more}
use Rattle.std.proofs.lemmas.Option.{MatchOption-at_some, MatchOption-at_none, slice_get-get_or, slice_get_past}
use Rattle.std.proofs.lemmas.Bool.{cases_eq, cases_lt, eq-eqb, ne_eqb, lt-ltb}
use Rattle.events.specs.Cells.{covers}
use Rattle.events.specs.Sets.{has, set_of}
use Rattle.events.proofs.SetLaws.{has-or, has_one, has_none, has_above, has-set_of, same_mask, set_of_small}
use Rattle.rules.specs.declared.Move.{Move}
use Rattle.rules.specs.declared.State.{State}
use Rattle.rulefile.specs.Records.{StateRecord}
use Rattle.pruning.specs.Computed.{InRange, leads, targets}

-- ---- a set from a test of each number

-- the set holds those of the numbers below q that the test found to pass, and none from q on
pub record Tried (P : ℕ → Bool → Type 0) (q set : ℕ) : Type 0 where
  pub tried : (k : ℕ) → k < q → P k (has set k)
  pub left : (k : ℕ) → q ≤ k → has set k ≡ false

module _ (P : ℕ → Bool → Type 0) where
  pub tried_none : Tried P 0 0
  tried_none = record { tried = λ k l. absurd (omega arith); left = λ k l. has_none k }

  module _ (q set : ℕ) (inv : Tried P q set) where
    pub tried_in : P q true → Tried P (q + 1) (bit_or set (2 ^ q))
    tried_in passes = record {
      tried = λ k l. at k l (cases_eq k q);
      left = λ k l. other k (λ e. omega (arith, e)) ∙ inv.left k (omega arith);
    }
      where
        is : (k : ℕ) → has (bit_or set (2 ^ q)) k ≡ (has set k || eqb k q)
        is k = has-or set (2 ^ q) k ∙ ap (λ (b : Bool). has set k || b) (has_one q k)

        other : (k : ℕ) → (k ≡ q → ⊥) → has (bit_or set (2 ^ q)) k ≡ has set k
        other k ne = is k ∙ ap (λ (b : Bool). has set k || b) (ne_eqb k q ne) ∙ or-false (has set k)

        here : has (bit_or set (2 ^ q)) q ≡ true
        here = is q ∙ ap₂ (λ (a b : Bool). a || b) (inv.left q (omega arith)) (eq-eqb q q refl)

        at : (k : ℕ) → k < q + 1 → (k ≡ q) ⊎ (k ≡ q → ⊥) → P k (has (bit_or set (2 ^ q)) k)
        at k l (inl e) = rw (e, here) passes
        at k l (inr ne) = rw (other k ne) (inv.tried k (omega (arith, ne)))

    pub tried_out : P q false → Tried P (q + 1) set
    tried_out fails = record { tried = λ k l. at k l (cases_eq k q); left = λ k l. inv.left k (omega arith) }
      where
        at : (k : ℕ) → k < q + 1 → (k ≡ q) ⊎ (k ≡ q → ⊥) → P k (has set k)
        at k l (inl e) = rw (e, inv.left q (omega arith)) fails
        at k l (inr ne) = inv.tried k (omega (arith, ne))

-- the set of those that pass
pub set_is : (n : ℕ) (f : ℕ → Bool) (set : ℕ) → set < 2 ^ n → ((k : ℕ) → k < n → has set k ≡ f k) → set ≡ set_of n f
set_is n f set small is = same_mask n set (set_of n f) small (set_of_small n f) (λ k l. is k l ∙ sym (has-set_of n f k l))

-- the set of the states that pass
abbrev pub passing : (State → Bool) → List State → ℕ
passing f states = set_of (length states) (λ q. f (get_or states q (record { start = false; accepting = false })))

-- the set of the places whose records pass
module _ (f : State → Bool) (records : List StateRecord) where
  abbrev rows : List State
  rows = map (λ s. s.value) records

  abbrev passes : ℕ → Bool
  passes q = f (get_or rows q (record { start = false; accepting = false }))

  unnamed : StateRecord
  unnamed = record { value = record { start = false; accepting = false }; name = record { at = 0; len = 0 } }

  long : length rows ≡ length records
  long = length-map records (λ s. s.value)

  pub places_are : (set : ℕ) → length records ≤ 32 → set < 2 ^ 32 → ((q : ℕ) → q < 32 → MatchOption (slice_get records q) (has set q ≡ false) (λ r. has set q ≡ f r.value))
      → set ≡ set_of (length rows) passes
  places_are set few small is = same_mask 32 set all small (omega (arith, few, long, set_of_small (length rows) passes, pow_mono {i = length rows} {j = 32})) (λ k l. place k l (cases_lt k (length rows)))
    where
      all : ℕ
      all = set_of (length rows) passes

      place : (k : ℕ) → k < 32 → (k < length rows) ⊎ (length rows ≤ k) → has set k ≡ has all k
      place k l (inl low) =
          let inside : k < length records = omega (arith, long, low) in
          MatchOption-at_some _ (λ r. has set k ≡ f r.value) (get_or records k unnamed) (slice_get-get_or records k unnamed inside) (is k l)
          ∙ ap f (sym (get_or-map (λ s. s.value) records k unnamed (record { start = false; accepting = false }) inside)) ∙ sym (has-set_of (length rows) passes k low)
      place k l (inr past) =
          MatchOption-at_none (has set k ≡ false) _ (slice_get_past records k (omega (arith, long, past))) (is k l)
          ∙ sym (has_above (length rows) all k (set_of_small (length rows) passes) past)

-- ---- Bools

eqb_swap : (a b : ℕ) → eqb a b ≡ eqb b a
eqb_swap a b = go (cases_eq a b)
  where
    go : (a ≡ b) ⊎ (a ≡ b → ⊥) → eqb a b ≡ eqb b a
    go (inl e) = eq-eqb a b e ∙ sym (eq-eqb b a (sym e))
    go (inr ne) = ne_eqb a b ne ∙ sym (ne_eqb b a (λ e. ne (sym e)))

-- what a test says once one part of it is known
pub known : (a b c : Bool) → a ≡ b → (a && c) ≡ (b && c)
known a b c e = ap (λ (x : Bool). x && c) e

-- ---- sets gathered from moves

-- the numbers below w that the test finds for one of the first i moves
pub record Gathered (w : ℕ) (test : Move → ℕ → Bool) (moves : List Move) (i set : ℕ) : Type 0 where
  pub small : set < 2 ^ w
  pub members : (k : ℕ) → k < w → has set k ≡ list_any (λ m. test m k) (take i moves)

module _ (w : ℕ) (test : Move → ℕ → Bool) (moves : List Move) where
  pub gathered_none : Gathered w test moves 0 0
  gathered_none = record { small = pow_pos w; members = λ k l. has_none k }

  module _ (i set : ℕ) (d : Move) (l : i < length moves) (inv : Gathered w test moves i set) where
    pub gathered_more : (new : ℕ) → new < 2 ^ w → ((k : ℕ) → k < w → has new k ≡ test (get_or moves i d) k) → Gathered w test moves (i + 1) (bit_or set new)
    gathered_more new small are = record {
      small = or_lt w set new inv.small small;
      members = λ k h. has-or set new k ∙ ap₂ (λ (a b : Bool). a || b) (inv.members k h) (are k h) ∙ sym (list_any_more (λ m. test m k) moves i d l);
    }

    pub gathered_same : ((k : ℕ) → k < w → test (get_or moves i d) k ≡ false) → Gathered w test moves (i + 1) set
    gathered_same fails = record {
      small = inv.small;
      members = λ k h.
          inv.members k h ∙ sym (or-false (list_any (λ m. test m k) (take i moves))) ∙ ap (λ (b : Bool). list_any (λ m. test m k) (take i moves) || b) (sym (fails k h))
          ∙ sym (list_any_more (λ m. test m k) moves i d l);
    }

  pub gathered_all : (i set : ℕ) → length moves ≤ i → Gathered w test moves i set → set ≡ set_of w (λ k. list_any (λ m. test m k) moves)
  gathered_all i set l inv = set_is w _ set inv.small (λ k h. inv.members k h ∙ ap (list_any (λ m. test m k)) (take_all i moves l))

-- ---- edges

-- whether the move goes from q to r
abbrev pub Leads : ℕ → Move → ℕ → Bool
Leads q m r = eqb m.from q && eqb m.to r

pub targets_small : (moves : List Move) (q : ℕ) → targets moves q < 2 ^ 32
unfolding targets
targets_small moves q = set_of_small 32 (leads moves q)

-- the masks hold the targets of the first i moves
pub record Targets (moves : List Move) (i : ℕ) (masks : List ℕ) : Type 0 where
  pub long : length masks ≡ 32
  pub are : (q : ℕ) → Gathered 32 (Leads q) moves i (get_or masks q 0)

none_at : (n q : ℕ) → ◌≡◌ {A = ℕ} 0 (get_or (replicate n 0) q 0)
none_at zero q = refl
none_at (suc n) zero = refl
none_at (suc n) (suc q) = none_at n q

module _ (moves : List Move) where
  pub targets_first : Targets moves 0 (replicate 32 0)
  targets_first = record { long = refl; are = λ q. subst (Gathered 32 (Leads q) moves 0) (none_at 32 q) (gathered_none 32 (Leads q) moves) }

  module _ (i : ℕ) (d : Move) (masks : List ℕ) (l : i < length moves) (inv : Targets moves i masks) where
    abbrev m : Move
    m = get_or moves i d

    pub targets_more : InRange m → (bit : ℕ) → bit ≡ 2 ^ m.to → Targets moves (i + 1) (set masks m.from (bit_or (get_or masks m.from 0) bit))
    targets_more range bit is = record { long = length-set masks m.from (bit_or (get_or masks m.from 0) bit) ∙ inv.long; are = λ q. at q (cases_eq q m.from) }
      where
        new : List ℕ
        new = set masks m.from (bit_or (get_or masks m.from 0) bit)

        one : (r : ℕ) → has bit r ≡ Leads m.from m r
        one r = ap (λ (b : ℕ). has b r) is ∙ has_one m.to r ∙ eqb_swap r m.to ∙ sym (known (eqb m.from m.from) true (eqb m.to r) (eq-eqb m.from m.from refl))

        -- a move from q adds its target, and any other move adds nothing
        at : (q : ℕ) → (q ≡ m.from) ⊎ (q ≡ m.from → ⊥) → Gathered 32 (Leads q) moves (i + 1) (get_or new q 0)
        at q (inl p) = subst (λ (q : ℕ). Gathered 32 (Leads q) moves (i + 1) (get_or new q 0)) (sym p)
            (subst (Gathered 32 (Leads m.from) moves (i + 1)) (sym (get_or-set_same masks m.from (bit_or (get_or masks m.from 0) bit) 0 (omega (arith, inv.long, range.leaves))))
            (gathered_more 32 (Leads m.from) moves i (get_or masks m.from 0) d l (inv.are m.from) bit (subst (λ (b : ℕ). b < 2 ^ 32) (sym is) (pow_below m.to 32 range.enters)) (λ r h. one r)))
        at q (inr ne) = subst (Gathered 32 (Leads q) moves (i + 1)) (sym (get_or-set_other masks m.from q (bit_or (get_or masks m.from 0) bit) 0 ne))
            (gathered_same 32 (Leads q) moves i (get_or masks q 0) d l (inv.are q) (λ r h. known (eqb m.from q) false (eqb m.to r) (ne_eqb m.from q (λ p. ne (sym p)))))

  pub targets_all : (i : ℕ) (masks : List ℕ) → length moves ≤ i → Targets moves i masks → (q : ℕ) → get_or masks q 0 ≡ targets moves q
  unfolding targets
  targets_all i masks l inv q = gathered_all 32 (Leads q) moves i (get_or masks q 0) l (inv.are q)

-- ---- covered events

-- whether the move goes from q into the set
abbrev pub Goes : Move → ℕ → ℕ → Bool
Goes m q into = eqb m.from q && has into m.to

-- and whether its cell covers the event
abbrev pub Covering : ℕ → ℕ → Move → ℕ → Bool
Covering q into m e = Goes m q into && covers m.cell e

-- a cell's own test holds
pub in_cell : (cell events : ℕ) → cell < 729 → ((e : ℕ) → e < 64 → has events e ≡ (ltb cell 729 && covers cell e)) → (e : ℕ) → e < 64 → has events e ≡ covers cell e
in_cell cell events l h e le = h e le ∙ ap (λ (b : Bool). b && covers cell e) (lt-ltb cell 729 l)
