-- The rule of a draft is well-formed, by the ranges that reading its file asks for.
use Rattle.std.proofs.Common.{◌≡◌, ℕ, zero, suc, ◌+◌, ◌-◌, ◌<◌, ◌≤◌, true, ◌&&◌, ◌||◌, T, eqb, ltb, leb, ◌⊎◌, List, [], ◌∷◌, map, length, get_or, is_ok, Some, None, Ok, Err, Option, Result, sym, refl, ap, ◌∙◌, subst, inl, inr, le_of_suc-le-suc, not-suc-le-zero, arith}
use Rattle.std.specs.List.{AllByRecursion}
use Rattle.std.proofs.lemmas.List.{length-map}
use Rattle.std.proofs.ByRecursion.{All-map, All-weaker}
use Rattle.std.proofs.lemmas.Bool.{ltb-true, eqb-true, or_cases, and_parts}
use Rattle.codec.specs.Reading.{Read}
use Rattle.codec.specs.declared.fault.CardFault.TheVariants as cards
use Rattle.codec.specs.Field.{field_at}
use Rattle.codec.proofs.Steps.{inside_ok, then_ok, else_ok, if_ok}
use Rattle.codec.proofs.Fields.{ranged_within}
use Rattle.rules.specs.declared.Move.{Move}
use Rattle.rules.specs.automata.Rules.{Rule, StateWith, LineInRange, MoveInRange, Before, Ascending, WellFormed}
use Rattle.rulefile.specs.declared.draft.Draft.{Draft}
use Rattle.rulefile.specs.declared.fault.FileFault.{FileFault}
use Rattle.rulefile.specs.declared.fault.FileFault.TheVariants as fault
use Rattle.rulefile.specs.declared.record.Record.{Record}
use Rattle.rulefile.specs.Records.{LineRecord, LineValue}
use Rattle.rulefile.specs.Records.{StateRecord}
use Rattle.rulefile.specs.Card.{line_at, move_at, name_at}
use Rattle.rulefile.specs.File.{Contents, file_of, count_at, line_cards_at, state_cards_at, move_cards_at, line_record_at, move_record_among, next_move_at, before, follows, row_from, any_start, rows_of_lines, rows_of_states, rows_of_moves}
use Rattle.rulefile.specs.Rule.{named_in}
use Rattle.rulefile.proofs.Files.{parts_of}
use Rattle.pruning.specs.Drafts.{rule_of}
use Rattle.pruning.specs.Computed.{InRange, Ranged}

-- ---- fields, lines and moves

field_within : (f : List ℕ) (p low high : ℕ) (n : Read ℕ) → field_at f p low high ≡ Ok n → (low ≤ n.value) × (n.value ≤ high)
field_within f p low high n h = let r = ranged_within cards.Short cards.Number cards.Range f p low high n h in (r.0, r.1)

line_fields : (f : List ℕ) (p : ℕ) (n : Read LineValue) → line_at f p ≡ Ok n → LineInRange n.value.value
line_fields f p n h =
    let cost = then_ok (λ e. e) (field_at f p 1 1000) _ n h in
    let chance = then_ok (λ e. e) (field_at f cost.0.next 0 100) _ n cost.2 in
    let name = then_ok (λ e. e) (name_at f chance.0.next) _ n chance.2 in
    let is = sym (inside_ok name.2) in
    let costs = field_within f p 1 1000 cost.0 cost.1 in
    let chances = field_within f cost.0.next 0 100 chance.0 chance.1 in
    rw is (record { cost_low = costs.0; cost_high = costs.1; chance_high = chances.1 })

line_within : (f : List ℕ) (p : ℕ) (n : Read LineRecord) → line_record_at f p ≡ Ok n → LineInRange n.value.value
line_within f p n h =
    let here = else_ok (leb (length f) p) _ _ n h in
    let card = then_ok fault.Card (line_at f p) _ n here.1 in
    let is = sym (inside_ok card.2) in
    rw is (line_fields f p card.0 card.1)

-- between states below k, on a cell
record Within (k : ℕ) (m : Move) : Type 0 where
  pub leaves : m.from < k
  pub on_cell : m.cell < 729
  pub enters : m.to < k

move_within : (f : List ℕ) (k p : ℕ) (n : Read Move) → 0 < k → move_at f p k ≡ Ok n → Within k n.value
move_within f k p n some h =
    let from = then_ok (λ e. e) (field_at f p 0 (k - 1)) _ n h in
    let cell = then_ok (λ e. e) (field_at f from.0.next 0 728) _ n from.2 in
    let to = then_ok (λ e. e) (field_at f cell.0.next 0 (k - 1)) _ n cell.2 in
    let is = sym (inside_ok to.2) in
    let a = field_within f p 0 (k - 1) from.0 from.1 in
    let b = field_within f from.0.next 0 728 cell.0 cell.1 in
    let c = field_within f cell.0.next 0 (k - 1) to.0 to.1 in
    rw is (record { leaves = omega arith; on_cell = omega arith; enters = omega arith })

-- a move that comes after the last one
Next : ℕ → Option Move → Move → Type 0
Next k last m = Within k m × (follows last m ≡ true)

next_within : (f : List ℕ) (k : ℕ) → 0 < k → (last : Option Move) (p : ℕ) (n : Read Move) → next_move_at f k last p ≡ Ok n → Next k last n.value
unfolding Next
next_within f k some last p n h =
    let a = then_ok (λ e. e) (move_record_among f p (k - 1)) _ n h in
    let here = else_ok (leb (length f) p) _ _ a.0 a.1 in
    let b = then_ok fault.Card (move_at f p k) _ a.0 here.1 in
    let c = if_ok (follows last a.0.value) _ _ n a.2 in
    let z = inside_ok b.2 in
    let z' = inside_ok c.1 in
    rw (← z') (move_within f k p a.0 some (rw z at b.1), c.0)

-- ---- rows

-- each is as it should be after the one before
InRow : {A S : Type 0} → (S → A → S) → (S → A → Type 0) → S → List A → Type 0
InRow left P s [] = Unit {0}
InRow left P s (x ∷ xs) = P s x × InRow left P (left s x) xs

in_row : {A S : Type 0} (left : S → A → S) (one : S → ℕ → Result (Read A) FileFault) (P : S → A → Type 0) → ((s : S) (p : ℕ) (n : Read A) → one s p ≡ Ok n → P s n.value)
    → (k : ℕ) (s : S) (p : ℕ) (r : Read (List A)) → row_from left one s p k ≡ Ok r → InRow left P s r.value
unfolding row_from InRow
in_row left one P holds zero s p r h = let z = sym (inside_ok h) in rw z tt
in_row left one P holds (suc k) s p r h =
    let a = then_ok (λ e. e) (one s p) _ r h in
    let rest = then_ok (λ e. e) (row_from left one (left s a.0.value) a.0.next k) _ r a.2 in
    let z = sym (inside_ok rest.2) in
    rw z (holds s p a.0 a.1, in_row left one P holds k (left s a.0.value) a.0.next rest.0 rest.1)

row_all : {A S : Type 0} (left : S → A → S) (P : S → A → Type 0) (Q : A → Type 0) → ((s : S) (x : A) → P s x → Q x) → (s : S) (xs : List A) → InRow left P s xs → AllByRecursion Q xs
unfolding InRow
row_all left P Q weak s [] h = tt
row_all left P Q weak s (x ∷ xs) h = (weak s x h.0, row_all left P Q weak (left s x) xs h.1)

-- ---- ascending moves

before_is : (a b : Move) → before a b ≡ true → Before a b
before_is a b e = from (or_cases _ _ e)
  where
    to : ((ltb a.cell b.cell) ≡ true) ⊎ ((eqb a.cell b.cell && ltb a.to b.to) ≡ true) → (a.cell < b.cell) ⊎ ((a.cell ≡ b.cell) × (a.to < b.to))
    to (inl h) = inl (ltb-true _ _ h)
    to (inr h) = let p = and_parts _ _ h in inr (eqb-true _ _ p.0, ltb-true _ _ p.1)

    from : ((ltb a.from b.from) ≡ true) ⊎ ((eqb a.from b.from && (ltb a.cell b.cell || (eqb a.cell b.cell && ltb a.to b.to))) ≡ true) → Before a b
    from (inl h) = inl (ltb-true _ _ h)
    from (inr h) = let p = and_parts _ _ h in inr (eqb-true _ _ p.0, to (or_cases _ _ p.1))

after_ascends : (k : ℕ) (a : Move) (ms : List Move) → InRow (λ _ m. Some m) (Next k) (Some a) ms → (j : ℕ) (d : Move) → j < length ms → Before (get_or (a ∷ ms) j d) (get_or ms j d)
unfolding InRow Next
after_ascends k a [] h j d l = absurd (not-suc-le-zero l)
after_ascends k a (m ∷ ms) h zero d l = before_is a m h.0.1
after_ascends k a (m ∷ ms) h (suc j) d l = after_ascends k m ms h.1 j d (le_of_suc-le-suc l)

ascends : (k : ℕ) (ms : List Move) → InRow (λ _ m. Some m) (Next k) None ms → Ascending ms
unfolding InRow Next
ascends k [] h j d l = absurd (not-suc-le-zero l)
ascends k (m ∷ ms) h j d l =
    let e : j + 1 ≡ suc j = omega arith in
    rw e (after_ascends k m ms h.1 j d (omega arith))

-- ---- states

values_same : {T : Type 0} (f : List ℕ) (rs : List (Record T)) → map (λ r. r.value) (map (named_in f) rs) ≡ map (λ r. r.value) rs
values_same f [] = refl
values_same f (r ∷ rs) = ap (λ xs. r.value ∷ xs) (values_same f rs)

start_is : (ss : List StateRecord) → any_start ss ≡ true → (q : ℕ) × StateWith (λ s. T s.start) (map (λ s. s.value) ss) q
start_is [] e = absurd (subst T (sym e) tt)
start_is (s ∷ ss) e = go (start_is ss) (or_cases s.value.start (any_start ss) e)
  where
    go : (any_start ss ≡ true → (q : ℕ) × StateWith (λ s. T s.start) (map (λ s. s.value) ss) q) → (s.value.start ≡ true) ⊎ (any_start ss ≡ true)
        → (q : ℕ) × StateWith (λ s. T s.start) (map (λ s. s.value) (s ∷ ss)) q
    go ih (inl h) = (0, subst T (sym h) tt)
    go ih (inr h) = let r = ih h in (suc r.0, r.1)

-- ---- the whole file

module _ (f : List ℕ) (c : Contents) (h : file_of f ≡ Ok c) where
  rows_within : AllByRecursion (λ l. LineInRange l.value) c.lines × (any_start c.states ≡ true)
  unfolding file_of
  rows_within =
      let version = then_ok (λ e. e) (count_at f 0 1 1) _ c h in
      let lines = then_ok (λ e. e) (line_cards_at f version.0.next) _ c version.2 in
      let n = then_ok (λ e. e) (count_at f lines.0.next 1 32) _ c lines.2 in
      let states = then_ok (λ e. e) (state_cards_at f n.0.next n.0.value) _ c n.2 in
      let start = if_ok (any_start states.0.value) _ _ c states.2 in
      let m = then_ok (λ e. e) (count_at f states.0.next 0 1024) _ c start.1 in
      let moves = then_ok (λ e. e) (move_cards_at f n.0.value m.0.next m.0.value) _ c m.2 in
      let all = else_ok (ltb moves.0.next (length f)) _ _ c moves.2 in
      let is = sym (inside_ok all.1) in
      let rows = in_row {S = Unit {0}} (λ _ _. tt) (λ _. line_record_at f) (λ _ l. LineInRange l.value) (λ s p n e. line_within f p n e) 6 tt version.0.next lines.0 lines.1 in
      rw is (row_all {S = Unit {0}} (λ _ _. tt) (λ _ l. LineInRange l.value) (λ l. LineInRange l.value) (λ s x p. p) tt lines.0.value rows, start.0)

  moves_row : InRow (λ _ m. Some m) (Next (length c.states)) None c.moves
  moves_row =
      let p = parts_of f c h in
      in_row (λ _ m. Some m) (next_move_at f (length c.states)) (Next (length c.states)) (next_within f (length c.states) p.some)
      (length c.moves) None c.moves_start (record { value = c.moves; next = p.moves_next }) p.moves_read

  moves_within : AllByRecursion (Within (length c.states)) c.moves
  unfolding Next
  moves_within = row_all (λ _ m. Some m) (Next (length c.states)) (Within (length c.states)) (λ s x p. p.0) None c.moves moves_row

-- the rule of records
abbrev rule_from : List ℕ → List LineRecord → List StateRecord → List Move → Rule
rule_from f ls ss ms = record { lines = map (λ l. l.value) (map (named_in f) ls); states = map (λ s. s.value) (map (named_in f) ss); moves = ms }

contents_well : (f : List ℕ) (c : Contents) → file_of f ≡ Ok c → WellFormed (rule_from f c.lines c.states c.moves)
contents_well f c h =
    let p = parts_of f c h in
    let count : length (map (λ s. s.value) (map (named_in f) c.states)) ≡ length c.states = length-map _ _ ∙ length-map c.states (named_in f) in
    record {
      six_lines = length-map _ _ ∙ (length-map c.lines (named_in f) ∙ p.six);
      lines_fit = rw (values_same f c.lines) (All-map LineInRange (λ l. l.value) c.lines (rows_within f c h).0);
      some_state = omega (arith, count, p.some);
      few_states = omega (arith, count, p.few);
      some_start = rw (values_same f c.states) (start_is c.states (rows_within f c h).1);
      few_moves = p.few_moves;
      moves_fit = All-weaker (Within (length c.states)) (MoveInRange (rule_from f c.lines c.states c.moves))
          (λ m w. record { from_low = rw count w.leaves; cell_low = w.on_cell; to_low = rw count w.enters }) c.moves (moves_within f c h);
      ascending = ascends (length c.states) c.moves (moves_row f c h);
    }

records_well : (f : List ℕ) (ls : List LineRecord) (ss : List StateRecord) (ms : List Move) → is_ok (file_of f) ≡ true
    → ls ≡ rows_of_lines (file_of f) → ss ≡ rows_of_states (file_of f) → ms ≡ rows_of_moves (file_of f) → WellFormed (rule_from f ls ss ms)
records_well f ls ss ms ok el es em = go (file_of f) refl
  where
    go : (r : Result Contents FileFault) → file_of f ≡ r → WellFormed (rule_from f ls ss ms)
    go (Ok c) e =
        let l : ls ≡ c.lines = el ∙ ap rows_of_lines e in
        let s : ss ≡ c.states = es ∙ ap rows_of_states e in
        let m : ms ≡ c.moves = em ∙ ap rows_of_moves e in
        rw (l, s, m) (contents_well f c e)
    go (Err d) e = absurd (subst T (sym ok ∙ ap is_ok e) tt)

-- ---- drafts

pub draft_well : (d : Draft) → WellFormed (rule_of d)
draft_well d = records_well d.file.now d.lines d.states.now d.moves.now d.read d.line_rows d.state_rows d.move_rows

pub draft_states : (d : Draft) → (rule_of d).states ≡ map (λ s. s.value) d.states.now
draft_states d = values_same d.file.now d.states.now

pub draft_few : (d : Draft) → length d.states.now ≤ 32
draft_few d = omega (arith, (draft_well d).few_states, ap length (draft_states d), length-map d.states.now (λ s. s.value))

pub draft_ranged : (d : Draft) → Ranged (rule_of d).moves
draft_ranged d = All-weaker (MoveInRange (rule_of d)) InRange
    (λ m r. record { leaves = omega (arith, r.from_low, (draft_well d).few_states); on_cell = r.cell_low; enters = omega (arith, r.to_low, (draft_well d).few_states) })
    (rule_of d).moves (draft_well d).moves_fit
