-- Lines, states and moves as they are read in a row, and as the file is said to hold them.
use Rattle.std.proofs.Common.{◌≡◌, ℕ, zero, suc, ◌-◌, Bool, true, false, not, ◌||◌, List, [], ◌∷◌, ◌++◌, length, drop, fold, Some, None, Option, is_ok, Ok, Err, Result, sym, refl, ap, ◌∙◌, arith}
use Rattle.codec.specs.Reading.{Read}
use Rattle.codec.specs.Steps.{and_then}
use Rattle.rules.specs.declared.Move.{Move}
use Rattle.rulefile.specs.declared.fault.FileFault.{FileFault}
use Rattle.rulefile.specs.declared.rows.Moves.{Moves}
use Rattle.rulefile.specs.declared.rows.States.{States}
use Rattle.rulefile.specs.Records.{LineRecord, StateRecord}
use Rattle.rulefile.specs.File.{row_from, cards_from, line_record_at, state_record_at, next_move_among, next_move_at, line_cards_at, state_cards_at, move_cards_at, any_start, rows_of, overlaid, file_of, outlined}
use Rattle.rulefile.specs.declared.outline.Outline.{Outline}
use Rattle.rulefile.proofs.Agree.{found, outline_states, outline_moves, states_count, moves_count, states_good, moves_good}

-- a row that begins with what was read
abbrev row : {A : Type 0} → (A → ℕ → Result (Read (List A)) FileFault) → Result (Read A) FileFault → Result (Read (List A)) FileFault
row rest r = and_then (λ e. e) r (λ a. and_then (λ e. e) (rest a.value a.next) (λ r. Ok (record { value = a.value ∷ r.value; next = r.next })))

same_rest : {A : Type 0} (f g : A → ℕ → Result (Read (List A)) FileFault) (r : Result (Read A) FileFault) → ((a : A) (p : ℕ) → f a p ≡ g a p) → row f r ≡ row g r
same_rest f g (Ok a) same = let e = same a.value a.next in rw e
same_rest f g (Err e) same = refl

-- cards do not depend on what is kept
pub cards_as : {A S : Type 0} (kept : S → A → S) (one : ℕ → Result (Read A) FileFault) (k : ℕ) (s : S) (p : ℕ) → row_from kept (λ _. one) s p k ≡ cards_from one p k
unfolding row_from
cards_as kept one zero s p = refl
cards_as kept one (suc k) s p = same_rest _ _ (one p) (λ a q. cards_as kept one k (kept s a) q)

-- moves keep how many states there are
pub moves_as : (f : List ℕ) (n k : ℕ) (last : Option Move) (p : ℕ)
    → row_from {S = Moves} (λ s m. record s { last = Some m }) (λ s p. next_move_among f s.highest s.last p) (record { highest = n - 1; last = last }) p k
    ≡ row_from (λ _ m. Some m) (next_move_at f n) last p k
unfolding row_from
moves_as f n zero last p = refl
moves_as f n (suc k) last p = same_rest _ _ (next_move_at f n last p) (λ a q. moves_as f n k (Some a) q)

-- states keep whether a start state was among them
states_start : (s : States) (xs : List StateRecord) → (fold (λ (s : States) x. record { start = s.start || x.value.start }) s xs).start ≡ (s.start || any_start xs)
states_start s [] = or_false s.start
  where
    or_false : (b : Bool) → b ≡ (b || false)
    or_false true = refl
    or_false false = refl
states_start s (x ∷ xs) = states_start (record { start = s.start || x.value.start }) xs ∙ or_assoc s.start x.value.start (any_start xs)
  where
    or_assoc : (a b c : Bool) → ((a || b) || c) ≡ (a || (b || c))
    or_assoc true b c = refl
    or_assoc false b c = refl

pub states_started : (s : States) (xs : List StateRecord) → s.start ≡ false
    → (fold (λ (s : States) x. record { start = s.start || x.value.start }) s xs).start ≡ any_start xs
states_started s xs h = states_start s xs ∙ ap (λ b. b || any_start xs) h

-- what a test says that is turned over
pub flip_true : (b : Bool) → not b ≡ true → b ≡ false
flip_true true h = sym h
flip_true false h = refl

pub flip_false : (b : Bool) → not b ≡ false → b ≡ true
flip_false true h = refl
flip_false false h = sym h

-- ---- what was read of other bytes that are the file

pub lines_read : {S : Type 0} (kept : S → LineRecord → S) (s : S) (f g : List ℕ) (p : ℕ) (r : Result (Read (List LineRecord)) FileFault) → g ≡ f
    → r ≡ row_from kept (λ _. line_record_at g) s p 6 → line_cards_at f p ≡ r
lines_read kept s f g p r e h = sym (h ∙ (cards_as kept (line_record_at g) 6 s p ∙ ap (λ x. line_cards_at x p) e))

pub states_read : {S : Type 0} (kept : S → StateRecord → S) (s : S) (f g : List ℕ) (p k : ℕ) (r : Result (Read (List StateRecord)) FileFault) → g ≡ f
    → r ≡ row_from kept (λ _. state_record_at g) s p k → state_cards_at f p k ≡ r
states_read kept s f g p k r e h = sym (h ∙ (cards_as kept (state_record_at g) k s p ∙ ap (λ x. state_cards_at x p k) e))

pub moves_read : (m : Moves) (f g : List ℕ) (n p k : ℕ) (r : Result (Read (List Move)) FileFault) → g ≡ f → m ≡ record { highest = n - 1; last = None }
    → r ≡ row_from {S = Moves} (λ s m. record s { last = Some m }) (λ s p. next_move_among g s.highest s.last p) m p k → move_cards_at f n p k ≡ r
moves_read m f g n p k r e is h =
    let h' = rw is at h in
    sym (h' ∙ (moves_as g n k None p ∙ ap (λ x. move_cards_at x n p k) e))

-- ---- and back

pub states_listed : {S : Type 0} (kept : S → StateRecord → S) (s : S) (f : List ℕ) (p k : ℕ) (r : Result (Read (List StateRecord)) FileFault)
    → state_cards_at f p k ≡ r → row_from kept (λ _. state_record_at f) s p k ≡ r
states_listed kept s f p k r e = cards_as kept (state_record_at f) k s p ∙ e

pub moves_listed : (m : Moves) (f : List ℕ) (n p k : ℕ) (r : Result (Read (List Move)) FileFault) → m ≡ record { highest = n - 1; last = None } → move_cards_at f n p k ≡ r
    → row_from {S = Moves} (λ s m. record s { last = Some m }) (λ s p. next_move_among f s.highest s.last p) m p k ≡ r
moves_listed m f n p k r is e = rw is (moves_as f n k None p ∙ e)

-- rows that are good are read
as_rows : {A : Type 0} (r : Result (Read (List A)) FileFault) (listed : List A) → is_ok r ≡ true → listed ≡ rows_of r
    → (end : ℕ) × (r ≡ Ok (record { value = listed; next = end }))
as_rows (Ok a) listed ok e = (a.next, rw e)
as_rows (Err d) listed ok e = let z : ◌≡◌ {A = ℕ} 0 1 = cc in absurd (omega arith)

-- ---- what was read is written over the front of a list

module _ (f : List ℕ) (o : Outline) (h : Ok o ≡ outlined (file_of f)) where
  pub states_written : (old rows : List StateRecord) (q : ℕ) → state_cards_at f o.states_at o.states ≡ Ok (record { value = rows; next = q })
      → rows ++ drop o.states old ≡ overlaid (found f o h).0.states old
  states_written old rows q e =
      let same : rows ≡ (found f o h).0.states = sym (ap rows_of e) ∙ outline_states f o h in
      let held = (found f o h).0.states in
      ap (λ k. rows ++ drop k old) (states_count f o h) ∙ ap (λ r. r ++ drop (length held) old) same

  pub moves_written : (old rows : List Move) (q : ℕ) → move_cards_at f o.states o.moves_at o.moves ≡ Ok (record { value = rows; next = q })
      → rows ++ drop o.moves old ≡ overlaid (found f o h).0.moves old
  moves_written old rows q e =
      let same : rows ≡ (found f o h).0.moves = sym (ap rows_of e) ∙ outline_moves f o h in
      let held = (found f o h).0.moves in
      ap (λ k. rows ++ drop k old) (moves_count f o h) ∙ ap (λ r. r ++ drop (length held) old) same

  -- a list is what stands in the file exactly where it is what was read
  pub states_same : (listed : List StateRecord) → listed ≡ rows_of (state_cards_at f o.states_at o.states)
      → (end : ℕ) × (state_cards_at f o.states_at o.states ≡ Ok (record { value = listed; next = end }))
  states_same listed e = as_rows (state_cards_at f o.states_at o.states) listed (states_good f o h) e

  pub moves_same : (listed : List Move) → listed ≡ rows_of (move_cards_at f o.states o.moves_at o.moves)
      → (end : ℕ) × (move_cards_at f o.states o.moves_at o.moves ≡ Ok (record { value = listed; next = end }))
  moves_same listed e = as_rows (move_cards_at f o.states o.moves_at o.moves) listed (moves_good f o h) e
