-- A name, a line card, a state card and a move are taken exactly where the bytes are their encodings.
use Rattle.std.proofs.Common.{◌≡◌, ℕ, zero, suc, ◌+◌, ◌-◌, ◌<◌, ◌≤◌, Bool, true, false, cond, not, leb, List, [], ◌∷◌, ◌++◌, length, get_or, drop, Ok, sym, refl, ap, ◌∙◌, subst, arith}
use Rattle.std.specs.List.{AllByRecursion}
use Rattle.std.proofs.lemmas.List.{drop_more}
use Rattle.std.proofs.lemmas.Bool.{leb-true, le-leb, lt-leb, leb-false, and_parts, and_from}
use Rattle.codec.specs.declared.fault.CardFault.TheVariants as card
use Rattle.codec.specs.Reading.{Read}
use Rattle.codec.specs.Number.{encode, Octets}
use Rattle.codec.specs.Field.{field_at}
use Rattle.codec.proofs.Steps.{inside_ok, then_ok, else_ok}
use Rattle.codec.proofs.Spans.{Spans, join, split, span_end, span_take, span_none}
use Rattle.codec.proofs.Fields.{ranged_sound, ranged_complete}
use Rattle.rules.specs.declared.Move.{Move}
use Rattle.rulefile.specs.Records.{LineValue, StateValue}
use Rattle.rulefile.specs.Card.{is_name_byte, name_end, name_at, line_at, state_of_flags, state_at, move_at}
use Rattle.rulefile.specs.Rule.{encode_name, encode_line, flags_of, encode_state, encode_move, GoodName, GoodLine, GoodState, GoodMove}

abbrev pub Printed : ℕ → Type 0
Printed b = (33 ≤ b) × (b ≤ 126)

-- the flags of a state are its own
flags_back : (n : ℕ) → n ≤ 3 → flags_of (state_of_flags n) ≡ n
flags_back zero h = refl
flags_back (suc zero) h = refl
flags_back (suc (suc zero)) h = refl
flags_back (suc (suc (suc zero))) h = refl
flags_back (suc (suc (suc (suc n)))) h = absurd (let no_way : ⊥ = omega arith in no_way)

state_back : (start accepting : Bool) → state_of_flags (cond start 1 0 + cond accepting 2 0) ≡ record { start = start; accepting = accepting }
state_back true true = refl
state_back true false = refl
state_back false true = refl
state_back false false = refl

flags_few : (start accepting : Bool) → cond start 1 0 + cond accepting 2 0 ≤ 3
flags_few true true = omega arith
flags_few true false = omega arith
flags_few false true = omega arith
flags_few false false = omega arith

not_false : (b : Bool) → not b ≡ false → b ≡ true
not_false true e = refl
not_false false e = sym e

module _ (f : List ℕ) (octets : Octets f) where
  -- name bytes
  pub name_end_sound : (k p q : ℕ) → p ≤ length f → name_end f p k ≡ Ok q → (name : List ℕ) × (length name ≡ k) × AllByRecursion Printed name × Spans f p name q
  name_end_sound zero p q h e =
      let z : p ≡ q = inside_ok e in
      ([], refl, tt, rw (← z) (span_none f p h))
  name_end_sound (suc k) p q h e =
      let a = else_ok (leb (length f) p) _ _ q e in
      let b = else_ok (not (is_name_byte (get_or f p 0))) _ _ q a.1 in
      let parts = and_parts (leb 33 (get_or f p 0)) (leb (get_or f p 0) 126) (not_false _ b.0) in
      let w : p < length f = leb-false _ _ a.0 in
      let r = name_end_sound k (p + 1) q (omega arith) b.1 in
      let s : Spans f p (get_or f p 0 ∷ []) (p + 1) = record { are = drop_more f p 0 w; inside = omega arith } in
      (get_or f p 0 ∷ r.0, ap suc r.1, ((leb-true _ _ parts.0, leb-true _ _ parts.1), r.2), join f p (p + 1) q (get_or f p 0 ∷ []) r.0 s r.3)

  pub name_end_complete : (name : List ℕ) (p q : ℕ) → p ≤ length f → AllByRecursion Printed name → Spans f p name q → name_end f p (length name) ≡ Ok q
  name_end_complete [] p q h g s = let e = span_end f p q [] h s in let e' : p ≡ q = omega arith in ap Ok e'
  name_end_complete (x ∷ name) p q h g s =
      let t = split f p q (x ∷ []) name h s in
      let e = span_end f p q (x ∷ name) h s in
      let w : p < length f = omega (arith, s.inside) in
      let same : get_or f p 0 ∷ drop (p + 1) f ≡ x ∷ (name ++ drop q f) = sym (drop_more f p 0 w) ∙ s.are in
      let here : get_or f p 0 ≡ x = cc in
      let room = lt-leb (length f) p w in
      let range = ap not (and_from (leb 33 (get_or f p 0)) (leb (get_or f p 0) 126) (le-leb _ _ (rw here g.0.0)) (le-leb _ _ (rw here g.0.1))) in
      let rest = name_end_complete name (p + 1) q (omega arith) g.1 t.1 in
      rw (room, range) rest

  named_at : (p : ℕ) (n : Read (List ℕ)) (name : List ℕ) (q : ℕ) → n.value ≡ name → n.next ≡ q → GoodName name → Spans f p (encode_name name) q
      → GoodName n.value × Spans f p (encode_name n.value) n.next
  named_at p n name q e e' g s = rw (e, e') (g, s)

  -- a name
  pub name_sound : (p : ℕ) (n : Read (List ℕ)) → name_at f p ≡ Ok n → GoodName n.value × Spans f p (encode_name n.value) n.next
  name_sound p n h =
      let a = then_ok (λ e. e) (field_at f p 0 16) _ n h in
      let b = then_ok (λ e. e) (name_end f a.0.next a.0.value) _ n a.2 in
      let c = ranged_sound card.Short card.Number card.Range f octets p 0 16 a.0 a.1 in
      let d = name_end_sound a.0.value a.0.next b.0 c.2.inside b.1 in
      let e = inside_ok b.2 in
      let name : n.value ≡ d.0 = sym (ap (λ (x : Read (List ℕ)). x.value) e) ∙ span_take f a.0.next b.0 d.0 c.2.inside d.3 in
      let next : n.next ≡ b.0 = sym (ap (λ (x : Read (List ℕ)). x.next) e) in
      let short : length d.0 ≤ 16 = omega (arith, d.1, c.1) in
      let s : Spans f p (encode (length d.0)) a.0.next = rw d.1 c.2 in
      let t : Spans f p (encode_name d.0) b.0 = join f p a.0.next b.0 (encode (length d.0)) d.0 s d.3 in
      named_at p n d.0 b.0 name next (record { short = short; printed = d.2 }) t

  pub name_complete : (name : List ℕ) (p q : ℕ) → p ≤ length f → GoodName name → Spans f p (encode_name name) q → name_at f p ≡ Ok (record { value = name; next = q })
  name_complete name p q h g s =
      let t = split f p q (encode (length name)) name h s in
      let a = ranged_complete card.Short card.Number card.Range f octets p 0 16 (length name) _ (omega arith) (omega arith) g.short h t.0 in
      let b = name_end_complete name (p + length (encode (length name))) q t.0.inside g.printed t.1 in
      let n = span_take f (p + length (encode (length name))) q name t.0.inside t.1 in
      rw (a, b, n)

  -- a line card
  pub line_sound : (p : ℕ) (n : Read LineValue) → line_at f p ≡ Ok n → GoodLine n.value × Spans f p (encode_line n.value) n.next
  line_sound p n h =
      let a = then_ok (λ e. e) (field_at f p 1 1000) _ n h in
      let b = then_ok (λ e. e) (field_at f a.0.next 0 100) _ n a.2 in
      let c = then_ok (λ e. e) (name_at f b.0.next) _ n b.2 in
      let e = sym (inside_ok c.2) in
      let cost = ranged_sound card.Short card.Number card.Range f octets p 1 1000 a.0 a.1 in
      let chance = ranged_sound card.Short card.Number card.Range f octets a.0.next 0 100 b.0 b.1 in
      let name = name_sound b.0.next c.0 c.1 in
      rw e (
        record { costs = (cost.0, cost.1); chances = chance.1; named = name.0 },
        join f p a.0.next c.0.next _ _ cost.2 (join f a.0.next b.0.next c.0.next _ _ chance.2 name.1),
      )

  pub line_complete : (l : LineValue) (p q : ℕ) → p ≤ length f → GoodLine l → Spans f p (encode_line l) q → line_at f p ≡ Ok (record { value = l; next = q })
  line_complete l p q h g s =
      let t = split f p q (encode l.value.cost) _ h s in
      let u = split f _ q (encode l.value.chance) _ t.0.inside t.1 in
      let a = ranged_complete card.Short card.Number card.Range f octets p 1 1000 l.value.cost _ (omega arith) g.costs.0 g.costs.1 h t.0 in
      let b = ranged_complete card.Short card.Number card.Range f octets _ 0 100 l.value.chance _ (omega arith) (omega arith) g.chances t.0.inside u.0 in
      let c = name_complete l.name _ q u.0.inside g.named u.1 in
      rw (a, b, c)

  -- a state card
  pub state_sound : (p : ℕ) (n : Read StateValue) → state_at f p ≡ Ok n → GoodState n.value × Spans f p (encode_state n.value) n.next
  state_sound p n h =
      let a = then_ok (λ e. e) (field_at f p 0 3) _ n h in
      let b = then_ok (λ e. e) (name_at f a.0.next) _ n a.2 in
      let e = sym (inside_ok b.2) in
      let flags = ranged_sound card.Short card.Number card.Range f octets p 0 3 a.0 a.1 in
      let name = name_sound a.0.next b.0 b.1 in
      let back = flags_back a.0.value flags.1 in
      let first : Spans f p (encode (flags_of (state_of_flags a.0.value))) a.0.next = subst (λ k. Spans f p (encode k) a.0.next) (sym back) flags.2 in
      rw e (name.0, join f p a.0.next b.0.next _ _ first name.1)

  pub state_complete : (s : StateValue) (p q : ℕ) → p ≤ length f → GoodState s → Spans f p (encode_state s) q → state_at f p ≡ Ok (record { value = s; next = q })
  state_complete v p q h g s =
      let t = split f p q (encode (flags_of v.value)) _ h s in
      let few = flags_few v.value.start v.value.accepting in
      let a = ranged_complete card.Short card.Number card.Range f octets p 0 3 (flags_of v.value) _ (omega arith) (omega arith) few h t.0 in
      let c = name_complete v.name _ q t.0.inside g t.1 in
      let back = state_back v.value.start v.value.accepting in
      rw (a, c, back)

  -- a move
  pub move_sound : (k p : ℕ) (n : Read Move) → 0 < k → move_at f p k ≡ Ok n → GoodMove k n.value × Spans f p (encode_move n.value) n.next
  move_sound k p n some h =
      let a = then_ok (λ e. e) (field_at f p 0 (k - 1)) _ n h in
      let b = then_ok (λ e. e) (field_at f a.0.next 0 728) _ n a.2 in
      let c = then_ok (λ e. e) (field_at f b.0.next 0 (k - 1)) _ n b.2 in
      let e = sym (inside_ok c.2) in
      let from = ranged_sound card.Short card.Number card.Range f octets p 0 (k - 1) a.0 a.1 in
      let cell = ranged_sound card.Short card.Number card.Range f octets a.0.next 0 728 b.0 b.1 in
      let to = ranged_sound card.Short card.Number card.Range f octets b.0.next 0 (k - 1) c.0 c.1 in
      rw e (
        record { leaves = omega (arith, from.1); covers = cell.1; enters = omega (arith, to.1) },
        join f p a.0.next c.0.next _ _ from.2 (join f a.0.next b.0.next c.0.next _ _ cell.2 to.2),
      )

  pub move_complete : (k : ℕ) (m : Move) (p q : ℕ) → k ≤ 32 → p ≤ length f → GoodMove k m → Spans f p (encode_move m) q → move_at f p k ≡ Ok (record { value = m; next = q })
  move_complete k m p q few h g s =
      let t = split f p q (encode m.from) _ h s in
      let u = split f _ q (encode m.cell) _ t.0.inside t.1 in
      let a = ranged_complete card.Short card.Number card.Range f octets p 0 (k - 1) m.from _ (omega arith) (omega arith) (omega (arith, g.leaves)) h t.0 in
      let b = ranged_complete card.Short card.Number card.Range f octets _ 0 728 m.cell _ (omega arith) (omega arith) g.covers t.0.inside u.0 in
      let c = ranged_complete card.Short card.Number card.Range f octets _ 0 (k - 1) m.to q (omega arith) (omega arith) (omega (arith, g.enters)) u.0.inside u.1 in
      rw (a, b, c)
