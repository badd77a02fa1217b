-- A file is taken exactly when it is the bytes of a good rule.
use Rattle.std.proofs.Common.{◌≡◌, ℕ, zero, suc, ◌+◌, ◌-◌, ◌<◌, ◌≤◌, true, false, ◌&&◌, ◌||◌, eqb, ltb, leb, ◌⊎◌, List, [], ◌∷◌, ◌++◌, map, length, take, drop, Some, None, Ok, Option, Result, sym, refl, ap, ◌∙◌, subst, inl, inr, ⊎_elim, arith}
use Rattle.std.specs.List.{flat_map, AllByRecursion}
use Rattle.std.proofs.lemmas.List.{length-map, append-nil, drop_all, map-id}
use Rattle.std.proofs.lemmas.Bool.{ltb-true, ltb-false, le-ltb, lt-ltb, lt-leb, eqb-true, eq-eqb, or_cases, or_left, or_right, and_parts, and_from}
use Rattle.rulefile.specs.declared.fault.FileFault.{FileFault}
use Rattle.rulefile.specs.declared.fault.FileFault.TheVariants as fault
use Rattle.rules.specs.declared.Move.{Move}
use Rattle.rulefile.specs.Records.{LineRecord}
use Rattle.rulefile.specs.Records.{StateRecord}
use Rattle.codec.specs.Reading.{Read}
use Rattle.codec.specs.Number.{encode, Octets}
use Rattle.rulefile.specs.Records.{LineValue, StateValue}
use Rattle.rulefile.specs.Card.{line_at, state_at, move_at}
use Rattle.rulefile.specs.File.{Contents, count_at, line_record_at, state_record_at, move_record_among, next_move_at, before, follows, row_from, line_cards_at, state_cards_at, move_cards_at, any_start, name_before, file_of}
use Rattle.rulefile.specs.Rule.{Rule, encode_name, encode_line, flags_of, encode_state, encode_move, encode_rule, GoodLine, GoodState, GoodMove, GoodRule, Before, Ascending, HasStart, named_in, rule_of, FileExact}
use Rattle.codec.proofs.Steps.{inside_ok, then_ok, else_ok, if_ok}
use Rattle.codec.proofs.Numbers.{encode_some}
use Rattle.rulefile.proofs.Cards.{line_sound, line_complete, state_sound, state_complete, move_sound, move_complete}
use Rattle.codec.proofs.Fields.{ranged_sound, ranged_complete}
use Rattle.codec.proofs.Spans.{Spans, join, split, span_end, span_take, span_none}

-- a move that comes after the last one
GoodNext : ℕ → Option Move → Move → Type 0
GoodNext k last m = GoodMove k m × (follows last m ≡ true)

-- each is good after the one before
GoodRow : {V S : Type 0} → (V → S) → (S → V → Type 0) → S → List V → Type 0
GoodRow next Good s [] = Unit {0}
GoodRow next Good s (v ∷ vs) = Good s v × GoodRow next Good (next v) vs

-- rows
module _ {A V S : Type 0} (f : List ℕ) (next : V → S) (view : A → V) (one : S → ℕ → Result (Read A) FileFault) (enc : V → List ℕ) (Good : S → V → Type 0) where
  Sound : Type 0
  Sound = (s : S) (p : ℕ) (n : Read A) → p ≤ length f → one s p ≡ Ok n → Good s (view n.value) × Spans f p (enc (view n.value)) n.next

  Complete : Type 0
  Complete = (s : S) (v : V) (p q : ℕ) → p ≤ length f → Good s v → Spans f p (enc v) q → (a : A) × (one s p ≡ Ok (record { value = a; next = q })) × (view a ≡ v)

  row_sound : Sound → (k : ℕ) (s : S) (p : ℕ) (n : Read (List A)) → p ≤ length f → row_from (λ _ a. next (view a)) one s p k ≡ Ok n
      → (length n.value ≡ k) × GoodRow next Good s (map view n.value) × Spans f p (flat_map enc (map view n.value)) n.next
  unfolding row_from GoodRow Sound
  row_sound sound zero s p n h e = let z = sym (inside_ok e) in rw z (refl, tt, span_none f p h)
  row_sound sound (suc k) s p n h e =
      let a = then_ok (λ e. e) (one s p) _ n e in
      let r = then_ok (λ e. e) (row_from (λ _ a. next (view a)) one (next (view a.0.value)) a.0.next k) _ n a.2 in
      let z = sym (inside_ok r.2) in
      let first = sound s p a.0 h a.1 in
      let rest = row_sound sound k (next (view a.0.value)) a.0.next r.0 first.1.inside r.1 in
      rw z (ap suc rest.0, (first.0, rest.1), join f p a.0.next r.0.next _ _ first.1 rest.2)

  row_step : (s : S) (p q p' k : ℕ) (a : A) (v : V) (rows : List A) → one s p ≡ Ok (record { value = a; next = p' }) → view a ≡ v
      → row_from (λ _ a. next (view a)) one (next v) p' k ≡ Ok (record { value = rows; next = q }) → row_from (λ _ a. next (view a)) one s p (suc k) ≡ Ok (record { value = a ∷ rows; next = q })
  unfolding row_from
  row_step s p q p' k a v rows h e r =
      let r' = subst (λ x. row_from (λ _ a. next (view a)) one (next x) p' k ≡ Ok (record { value = rows; next = q })) (sym e) r in
      rw (h, r')

  both : {x y : V} {xs ys : List V} → x ≡ y → xs ≡ ys → x ∷ xs ≡ y ∷ ys
  both e h = cc

  row_complete : Complete → (vs : List V) (s : S) (p q : ℕ) → p ≤ length f → GoodRow next Good s vs → Spans f p (flat_map enc vs) q
      → (rows : List A) × (row_from (λ _ a. next (view a)) one s p (length vs) ≡ Ok (record { value = rows; next = q })) × (map view rows ≡ vs)
  unfolding row_from GoodRow Complete
  row_complete complete [] s p q h g t =
      let e = span_end f p q [] h t in
      let e' : p ≡ q = omega arith in
      ([], ap (λ x. Ok (record { value = []; next = x })) e', refl)
  row_complete complete (v ∷ vs) s p q h g t =
      let u = split f p q (enc v) (flat_map enc vs) h t in
      let first = complete s v p _ h g.0 u.0 in
      let rest = row_complete complete vs (next v) (p + length (enc v)) q u.0.inside g.1 u.1 in
      (first.0 ∷ rest.0, row_step s p q (p + length (enc v)) (length vs) first.0 v rest.0 first.1 first.2 rest.1, both first.2 rest.2)

module _ (f : List ℕ) (octets : Octets f) where
  -- a name lies before the end of its card
  name_part : (name : List ℕ) (p q : ℕ) → p ≤ length f → Spans f p (encode_name name) q → take (length name) (drop (q - length name) f) ≡ name
  name_part name p q h s =
      let t = split f p q (encode (length name)) name h s in
      let e = span_end f (p + length (encode (length name))) q name t.0.inside t.1 in
      let at : q - length name ≡ p + length (encode (length name)) = omega arith in
      let n : length name ≡ q - (p + length (encode (length name))) = omega arith in
      ap (λ k. take (length name) (drop k f)) at ∙ (ap (λ k. take k (drop (p + length (encode (length name))) f)) n
      ∙ span_take f (p + length (encode (length name))) q name t.0.inside t.1)

  -- a part that begins with a number is not empty
  room_of : (v : ℕ) (more : List ℕ) (p q : ℕ) → p ≤ length f → Spans f p (encode v ++ more) q → leb (length f) p ≡ false
  room_of v more p q h s =
      let t = split f p q (encode v) more h s in
      let some = encode_some v in
      lt-leb (length f) p (omega (arith, t.0.inside))

  state_record_sound : (p : ℕ) (n : Read StateRecord) → p ≤ length f → state_record_at f p ≡ Ok n → GoodState (named_in f n.value) × Spans f p (encode_state (named_in f n.value)) n.next
  state_record_sound p n h e =
      let here = else_ok (leb (length f) p) _ _ n e in
      let a = then_ok fault.Card (state_at f p) _ n here.1 in
      let z = sym (inside_ok a.2) in
      let s = state_sound f octets p a.0 a.1 in
      let t = split f p a.0.next (encode (flags_of a.0.value.value)) _ h s.1 in
      let name = name_part a.0.value.name _ a.0.next t.0.inside t.1 in
      rw (z, name) s

  state_record_complete : (s : StateValue) (p q : ℕ) → p ≤ length f → GoodState s → Spans f p (encode_state s) q
      → (r : StateRecord) × (state_record_at f p ≡ Ok (record { value = r; next = q })) × (named_in f r ≡ s)
  state_record_complete s p q h g t =
      let a = state_complete f octets s p q h g t in
      let u = split f p q (encode (flags_of s.value)) _ h t in
      let name = name_part s.name _ q u.0.inside u.1 in
      (record { value = s.value; name = name_before q s.name }, rw (a, room_of (flags_of s.value) _ p q h t), rw name)

  line_record_sound : (p : ℕ) (n : Read LineRecord) → p ≤ length f → line_record_at f p ≡ Ok n → GoodLine (named_in f n.value) × Spans f p (encode_line (named_in f n.value)) n.next
  line_record_sound p n h e =
      let here = else_ok (leb (length f) p) _ _ n e in
      let a = then_ok fault.Card (line_at f p) _ n here.1 in
      let z = sym (inside_ok a.2) in
      let s = line_sound f octets p a.0 a.1 in
      let t = split f p a.0.next (encode a.0.value.value.cost) _ h s.1 in
      let u = split f _ a.0.next (encode a.0.value.value.chance) _ t.0.inside t.1 in
      let name = name_part a.0.value.name _ a.0.next u.0.inside u.1 in
      rw (z, name) s

  line_record_complete : (l : LineValue) (p q : ℕ) → p ≤ length f → GoodLine l → Spans f p (encode_line l) q
      → (r : LineRecord) × (line_record_at f p ≡ Ok (record { value = r; next = q })) × (named_in f r ≡ l)
  line_record_complete l p q h g t =
      let a = line_complete f octets l p q h g t in
      let u = split f p q (encode l.value.cost) _ h t in
      let w = split f _ q (encode l.value.chance) _ u.0.inside u.1 in
      let name = name_part l.name _ q w.0.inside w.1 in
      (record { value = l.value; name = name_before q l.name }, rw (a, room_of l.value.cost _ p q h t), rw name)

  next_move_sound : (k : ℕ) → 0 < k → (last : Option Move) (p : ℕ) (n : Read Move) → p ≤ length f → next_move_at f k last p ≡ Ok n
      → GoodNext k last n.value × Spans f p (encode_move n.value) n.next
  unfolding GoodNext
  next_move_sound k some last p n h e =
      let a = then_ok (λ e. e) (move_record_among f p (k - 1)) _ n e in
      let here = else_ok (leb (length f) p) _ _ a.0 a.1 in
      let b = then_ok fault.Card (move_at f p k) _ a.0 here.1 in
      let c = if_ok (follows last a.0.value) _ _ n a.2 in
      let z = inside_ok b.2 in
      let z' = inside_ok c.1 in
      let s = move_sound f octets k p a.0 some (rw z at b.1) in
      rw (← z') ((s.0, c.0), s.1)

  next_move_complete : (k : ℕ) → k ≤ 32 → (last : Option Move) (m : Move) (p q : ℕ) → p ≤ length f → GoodNext k last m → Spans f p (encode_move m) q
      → (a : Move) × (next_move_at f k last p ≡ Ok (record { value = a; next = q })) × (a ≡ m)
  unfolding GoodNext
  next_move_complete k few last m p q h g s =
      let a = move_complete f octets k m p q few h g.0 s in
      let o = g.1 in
      (m, rw (a, room_of m.from _ p q h s, o), refl)

-- a start state
start_sound : (f : List ℕ) (rs : List StateRecord) → any_start rs ≡ true → HasStart (map (named_in f) rs)
start_sound f [] e = let z : ◌≡◌ {A = ℕ} 0 1 = cc in absurd (omega arith)
start_sound f (r ∷ rs) e = ⊎_elim (λ (h : r.value.start ≡ true). inl h) (λ (h : any_start rs ≡ true). inr (start_sound f rs h)) (or_cases r.value.start (any_start rs) e)

start_complete : (f : List ℕ) (rs : List StateRecord) → HasStart (map (named_in f) rs) → any_start rs ≡ true
start_complete f [] h = absurd h
start_complete f (r ∷ rs) (inl e) = or_left r.value.start (any_start rs) e
start_complete f (r ∷ rs) (inr h) = or_right r.value.start (any_start rs) (start_complete f rs h)

-- a part that is all of the file
closed : (f bytes : List ℕ) (q : ℕ) → Spans f 0 bytes q → drop q f ≡ [] → f ≡ bytes
closed f bytes q s past = s.are ∙ (ap (λ xs. bytes ++ xs) past ∙ append-nil bytes)

rule_same : (r : Rule) (ls : List LineValue) (ss : List StateValue) (ms : List Move) → ls ≡ r.lines → ss ≡ r.states → ms ≡ r.moves → record { lines = ls; states = ss; moves = ms } ≡ r
rule_same r ls ss ms a b c = rw (a, b, c)

-- cards that do not look at the one before
all_row : {V : Type 0} (G : V → Type 0) (vs : List V) → GoodRow {S = Unit {0}} (λ _. tt) (λ _. G) tt vs → AllByRecursion G vs
unfolding GoodRow
all_row G [] g = tt
all_row G (v ∷ vs) g = (g.0, all_row G vs g.1)

row_all : {V : Type 0} (G : V → Type 0) (vs : List V) → AllByRecursion G vs → GoodRow {S = Unit {0}} (λ _. tt) (λ _. G) tt vs
unfolding GoodRow
row_all G [] g = tt
row_all G (v ∷ vs) g = (g.0, row_all G vs g.1)

-- the order of moves
before_sound : (a b : Move) → before a b ≡ true → Before a b
before_sound a b e =
    ⊎_elim (λ (h : ltb a.from b.from ≡ true). inl (ltb-true _ _ h))
    (λ (h : (eqb a.from b.from && (ltb a.cell b.cell || (eqb a.cell b.cell && ltb a.to b.to))) ≡ true).
    let p = and_parts _ _ h in
    inr (
      eqb-true _ _ p.0,
      ⊎_elim (λ (k : ltb a.cell b.cell ≡ true). inl (ltb-true _ _ k))
          (λ (k : (eqb a.cell b.cell && ltb a.to b.to) ≡ true). let q = and_parts _ _ k in inr (eqb-true _ _ q.0, ltb-true _ _ q.1))
          (or_cases (ltb a.cell b.cell) (eqb a.cell b.cell && ltb a.to b.to) p.1),
    ))
    (or_cases (ltb a.from b.from) (eqb a.from b.from && (ltb a.cell b.cell || (eqb a.cell b.cell && ltb a.to b.to))) e)

before_complete : (a b : Move) → Before a b → before a b ≡ true
before_complete a b (inl h) = or_left _ _ (lt-ltb _ _ h)
before_complete a b (inr h) = or_right _ _ (and_from _ _ (eq-eqb _ _ h.0) (go h.1))
  where
    go : (a.cell < b.cell) ⊎ ((a.cell ≡ b.cell) × (a.to < b.to)) → (ltb a.cell b.cell || (eqb a.cell b.cell && ltb a.to b.to)) ≡ true
    go (inl k) = or_left _ _ (lt-ltb _ _ k)
    go (inr k) = or_right _ _ (and_from _ _ (eq-eqb _ _ k.0) (lt-ltb _ _ k.1))

moves_all : (k : ℕ) (last : Option Move) (ms : List Move) → GoodRow Some (GoodNext k) last ms → AllByRecursion (GoodMove k) ms
unfolding GoodRow GoodNext
moves_all k last [] g = tt
moves_all k last (m ∷ ms) g = (g.0.0, moves_all k (Some m) ms g.1)

moves_after : (k : ℕ) (a : Move) (ms : List Move) → GoodRow Some (GoodNext k) (Some a) ms → Ascending (a ∷ ms)
unfolding GoodRow GoodNext
moves_after k a [] g = tt
moves_after k a (m ∷ ms) g = (before_sound a m g.0.1, moves_after k m ms g.1)

moves_ascend : (k : ℕ) (ms : List Move) → GoodRow Some (GoodNext k) None ms → Ascending ms
unfolding GoodRow GoodNext
moves_ascend k [] g = tt
moves_ascend k (m ∷ ms) g = moves_after k m ms g.1

after_moves : (k : ℕ) (a : Move) (ms : List Move) → AllByRecursion (GoodMove k) ms → Ascending (a ∷ ms) → GoodRow Some (GoodNext k) (Some a) ms
unfolding GoodRow GoodNext
after_moves k a [] g h = tt
after_moves k a (m ∷ ms) g h = ((g.0, before_complete a m h.0), after_moves k m ms g.1 h.1)

row_moves : (k : ℕ) (ms : List Move) → AllByRecursion (GoodMove k) ms → Ascending ms → GoodRow Some (GoodNext k) None ms
unfolding GoodRow GoodNext
row_moves k [] g h = tt
row_moves k (m ∷ ms) g h = ((g.0, refl), after_moves k m ms g.1 h)

module _ (f : List ℕ) (octets : Octets f) where
  lines_sound : Sound {S = Unit {0}} f (λ _. tt) (named_in f) (λ _. line_record_at f) encode_line (λ _. GoodLine)
  unfolding Sound
  lines_sound s p n h e = line_record_sound f octets p n h e

  lines_complete : Complete {S = Unit {0}} f (λ _. tt) (named_in f) (λ _. line_record_at f) encode_line (λ _. GoodLine)
  unfolding Complete
  lines_complete s v p q h g t = line_record_complete f octets v p q h g t

  states_sound : Sound {S = Unit {0}} f (λ _. tt) (named_in f) (λ _. state_record_at f) encode_state (λ _. GoodState)
  unfolding Sound
  states_sound s p n h e = state_record_sound f octets p n h e

  states_complete : Complete {S = Unit {0}} f (λ _. tt) (named_in f) (λ _. state_record_at f) encode_state (λ _. GoodState)
  unfolding Complete
  states_complete s v p q h g t = state_record_complete f octets v p q h g t

  moves_sound : (k : ℕ) → 0 < k → Sound f Some (λ m. m) (next_move_at f k) encode_move (GoodNext k)
  unfolding Sound
  moves_sound k some s p n h e = next_move_sound f octets k some s p n h e

  moves_complete : (k : ℕ) → k ≤ 32 → Complete f Some (λ m. m) (next_move_at f k) encode_move (GoodNext k)
  unfolding Complete
  moves_complete k few s v p q h g t = next_move_complete f octets k few s v p q h g t

  six_lines : (p q k : ℕ) (ls : List LineRecord) → k ≡ 6 → row_from {S = Unit {0}} (λ _ _. tt) (λ _. line_record_at f) tt p k ≡ Ok (record { value = ls; next = q }) → line_cards_at f p ≡ Ok (record { value = ls; next = q })
  six_lines p q k ls e h = subst (λ k. row_from {S = Unit {0}} (λ _ _. tt) (λ _. line_record_at f) tt p k ≡ Ok (record { value = ls; next = q })) e h

  file_chain : (p1 p2 p3 p4 p5 n m : ℕ) (ls : List LineRecord) (ss : List StateRecord) (ms : List Move)
      → count_at f 0 1 1 ≡ Ok (record { value = 1; next = p1 }) → line_cards_at f p1 ≡ Ok (record { value = ls; next = p2 })
      → count_at f p2 1 32 ≡ Ok (record { value = n; next = p3 }) → state_cards_at f p3 n ≡ Ok (record { value = ss; next = p4 }) → any_start ss ≡ true
      → count_at f p4 0 1024 ≡ Ok (record { value = m; next = p5 }) → move_cards_at f n p5 m ≡ Ok (record { value = ms; next = length f })
      → file_of f ≡ Ok (record { lines = ls; states_start = p3; states = ss; moves_start = p5; moves = ms })
  unfolding file_of
  file_chain p1 p2 p3 p4 p5 n m ls ss ms h1 h2 h3 h4 h5 h6 h7 =
      let none = le-ltb (length f) (length f) (omega arith) in
      rw (h1, h2, h3, h4, h5, h6, h7, none)

  -- what is taken follows the format
  pub file_sound : (c : Contents) → file_of f ≡ Ok c → GoodRule (rule_of f c) × (f ≡ encode_rule (rule_of f c))
  unfolding file_of encode_rule
  file_sound c h =
      let version = then_ok (λ e. e) (count_at f 0 1 1) _ c h in
      let lines = then_ok (λ e. e) (line_cards_at f version.0.next) _ c version.2 in
      let n = then_ok (λ e. e) (count_at f lines.0.next 1 32) _ c lines.2 in
      let states = then_ok (λ e. e) (state_cards_at f n.0.next n.0.value) _ c n.2 in
      let start = if_ok (any_start states.0.value) _ _ c states.2 in
      let m = then_ok (λ e. e) (count_at f states.0.next 0 1024) _ c start.1 in
      let moves = then_ok (λ e. e) (move_cards_at f n.0.value m.0.next m.0.value) _ c m.2 in
      let all = else_ok (ltb moves.0.next (length f)) _ _ c moves.2 in
      let is = sym (inside_ok all.1) in
      let s1 = ranged_sound fault.Short fault.Number fault.Range f octets 0 1 1 version.0 version.1 in
      let s2 = row_sound {S = Unit {0}} f (λ _. tt) (named_in f) (λ _. line_record_at f) encode_line (λ _. GoodLine) lines_sound 6 tt version.0.next lines.0 s1.2.inside lines.1 in
      let s3 = ranged_sound fault.Short fault.Number fault.Range f octets lines.0.next 1 32 n.0 n.1 in
      let s4 = row_sound {S = Unit {0}} f (λ _. tt) (named_in f) (λ _. state_record_at f) encode_state (λ _. GoodState) states_sound n.0.value tt n.0.next states.0 s3.2.inside states.1 in
      let s5 = ranged_sound fault.Short fault.Number fault.Range f octets states.0.next 0 1024 m.0 m.1 in
      let s6 = row_sound f Some (λ m. m) (next_move_at f n.0.value) encode_move (GoodNext n.0.value) (moves_sound n.0.value s3.0) m.0.value None m.0.next moves.0 s5.2.inside moves.1 in
      let past = drop_all moves.0.next f (ltb-false _ _ all.0) in
      rw is (file_joined version.0 lines.0 n.0 states.0 m.0 moves.0 (omega (arith, s1.0, s1.1)) s1.2 s2 s3 s4 start.0 s5 s6 past)
    where
      file_joined : (version : Read ℕ) (lines : Read (List LineRecord)) (n : Read ℕ) (states : Read (List StateRecord)) (m : Read ℕ) (moves : Read (List Move))
          → version.value ≡ 1 → Spans f 0 (encode version.value) version.next
          → (length lines.value ≡ 6) × GoodRow {S = Unit {0}} (λ _. tt) (λ _. GoodLine) tt (map (named_in f) lines.value) × Spans f version.next (flat_map encode_line (map (named_in f) lines.value)) lines.next
          → (1 ≤ n.value) × (n.value ≤ 32) × Spans f lines.next (encode n.value) n.next
          → (length states.value ≡ n.value) × GoodRow {S = Unit {0}} (λ _. tt) (λ _. GoodState) tt (map (named_in f) states.value) × Spans f n.next (flat_map encode_state (map (named_in f) states.value)) states.next
          → any_start states.value ≡ true
          → (0 ≤ m.value) × (m.value ≤ 1024) × Spans f states.next (encode m.value) m.next
          → (length moves.value ≡ m.value) × GoodRow Some (GoodNext n.value) None (map (λ m. m) moves.value) × Spans f m.next (flat_map encode_move (map (λ m. m) moves.value)) moves.next
          → drop moves.next f ≡ []
          → GoodRule (rule_of f (record { lines = lines.value; states_start = n.next; states = states.value; moves_start = m.next; moves = moves.value }))
          × (f ≡ encode_rule (rule_of f (record { lines = lines.value; states_start = n.next; states = states.value; moves_start = m.next; moves = moves.value })))
      file_joined version lines n states m moves one s1 s2 s3 s4 start s5 s6 past =
          let count : length (map (named_in f) states.value) ≡ n.value = length-map states.value (named_in f) ∙ s4.0 in
          let same = map-id moves.value in
          let g6 : GoodRow Some (GoodNext n.value) None moves.value = subst (λ ms. GoodRow Some (GoodNext n.value) None ms) same s6.1 in
          let e1 : Spans f 0 (encode 1) version.next = subst (λ v. Spans f 0 (encode v) version.next) one s1 in
          let e3 : Spans f lines.next (encode (length (map (named_in f) states.value))) n.next = subst (λ v. Spans f lines.next (encode v) n.next) (sym count) s3.2 in
          let e5 : Spans f states.next (encode (length moves.value)) m.next = subst (λ v. Spans f states.next (encode v) m.next) (sym s6.0) s5.2 in
          let e6 : Spans f m.next (flat_map encode_move moves.value) moves.next = subst (λ ms. Spans f m.next (flat_map encode_move ms) moves.next) same s6.2 in
          let whole = join f 0 version.next moves.next _ _ e1 (join f version.next lines.next moves.next _ _ s2.2 (join f lines.next n.next moves.next _ _ e3
          (join f n.next states.next moves.next _ _ s4.2 (join f states.next m.next moves.next _ _ e5 e6)))) in (
            record {
              six = length-map lines.value (named_in f) ∙ s2.0;
              lines_good = all_row GoodLine _ s2.1;
              some = omega (arith, count, s3.0);
              few = omega (arith, count, s3.1);
              states_good = all_row GoodState _ s4.1;
              start = start_sound f states.value start;
              few_moves = omega (arith, s6.0, s5.1);
              moves_good = subst (λ k. AllByRecursion (GoodMove k) moves.value) (sym count) (moves_all n.value None moves.value g6);
              ascending = moves_ascend n.value moves.value g6;
            },
            closed f _ moves.next whole past,
          )

  -- what follows the format is taken
  pub file_complete : (r : Rule) → GoodRule r → f ≡ encode_rule r → (c : Contents) × (file_of f ≡ Ok c) × (rule_of f c ≡ r)
  unfolding file_of encode_rule
  file_complete r g e =
      let whole : Spans f 0 (encode_rule r) (length f) = record { are = e ∙ (sym (append-nil (encode_rule r)) ∙ ap (λ xs. encode_rule r ++ xs) (sym (drop_all (length f) f (omega arith)))); inside = omega arith } in
      let t1 = split f 0 (length f) (encode 1) _ (omega arith) whole in
      let t2 = split f _ (length f) (flat_map encode_line r.lines) _ t1.0.inside t1.1 in
      let t3 = split f _ (length f) (encode (length r.states)) _ t2.0.inside t2.1 in
      let t4 = split f _ (length f) (flat_map encode_state r.states) _ t3.0.inside t3.1 in
      let t5 = split f _ (length f) (encode (length r.moves)) _ t4.0.inside t4.1 in
      let version = ranged_complete fault.Short fault.Number fault.Range f octets 0 1 1 1 _ (omega arith) (omega arith) (omega arith) (omega arith) t1.0 in
      let lines = row_complete {S = Unit {0}} f (λ _. tt) (named_in f) (λ _. line_record_at f) encode_line (λ _. GoodLine) lines_complete r.lines tt _ _ t1.0.inside (row_all GoodLine r.lines g.lines_good) t2.0 in
      let n = ranged_complete fault.Short fault.Number fault.Range f octets _ 1 32 (length r.states) _ (omega arith) g.some g.few t2.0.inside t3.0 in
      let states = row_complete {S = Unit {0}} f (λ _. tt) (named_in f) (λ _. state_record_at f) encode_state (λ _. GoodState) states_complete r.states tt _ _ t3.0.inside (row_all GoodState r.states g.states_good) t4.0 in
      let m = ranged_complete fault.Short fault.Number fault.Range f octets _ 0 1024 (length r.moves) _ (omega arith) (omega arith) g.few_moves t4.0.inside t5.0 in
      let moves = row_complete f Some (λ m. m) (next_move_at f (length r.states)) encode_move (GoodNext (length r.states)) (moves_complete (length r.states) g.few) r.moves None _ _ t5.0.inside
      (row_moves (length r.states) r.moves g.moves_good g.ascending) t5.1 in
      let six = six_lines _ _ (length r.lines) lines.0 g.six lines.1 in
      let start = subst HasStart (sym states.2) g.start in
      let any = start_complete f states.0 start in (
        _,
        file_chain _ _ _ _ _ _ _ lines.0 states.0 moves.0 version six n states.1 any m moves.1,
        rule_same r _ _ _ lines.2 states.2 (sym (map-id moves.0) ∙ moves.2),
      )

-- the reader is exact for the format
pub file_exact : FileExact
file_exact f octets r =
    ((λ c h e. subst (λ x. GoodRule x × (f ≡ encode_rule x)) e (file_sound f octets c h)), file_complete f octets r)
