-- Reading a number is exact for its encoding.
use Rattle.std.proofs.Common.{◌≡◌, ◌↔◌, ℕ, zero, suc, ◌+◌, ◌-◌, ◌*◌, ◌/◌, ◌%◌, ◌<◌, ◌≤◌, ◌||◌, eqb, ltb, leb, List, [], ◌∷◌, ◌++◌, length, get_or, drop, IfOk, Ok, Result, sym, refl, ap, ◌∙◌, subst, ⊎_elim, arith}
use Rattle.std.proofs.lemmas.Bool.{cond_both, ltb-true, ltb-false, leb-false, eqb-false, cond-true, cond-false, lt-ltb, le-ltb, lt-leb, or_parts, or_from, ne_eqb, cases_lt}
use Rattle.std.proofs.lemmas.List.{drop_more, length-drop, length-append}
use Rattle.std.proofs.lemmas.Nat.{div-mul-add, mod-mul-add, div-add-mod', mod_below}
use Rattle.std.proofs.lemmas.Result.{MatchResult-at_ok}
use Rattle.codec.specs.Reading.{Read, read_to}
use Rattle.codec.specs.declared.fault.NumberFault.{NumberFault}
use Rattle.codec.specs.Number.{groups, encode, number_at, IsNumber, Octets, NumberExact}

-- the last group
groups_last : (k n : ℕ) → n < 128 → groups k n ≡ n ∷ []
groups_last zero n h = refl
groups_last (suc k) n h = cond-true (ltb n 128) _ _ (lt-ltb n 128 h)

-- one group before others
groups_more : (k r m : ℕ) → r < 128 → 0 < m → groups (suc k) (m * 128 + r) ≡ (128 + r) ∷ groups k m
groups_more k r m h l =
    cond-false (ltb (m * 128 + r) 128) _ _ (le-ltb _ _ (omega arith))
    ∙ rw (mod-mul-add m 128 r, div-mul-add m 128 r)

encode_one : (a : ℕ) → a < 128 → encode a ≡ a ∷ []
encode_one a h = groups_last 2 a h

encode_two : (a b : ℕ) → 128 ≤ a → a < 256 → 0 < b → b < 128 → encode ((a - 128) + 128 * b) ≡ a ∷ b ∷ []
encode_two a b la ha lb hb =
    let e : (a - 128) + 128 * b ≡ b * 128 + (a - 128) = omega arith in
    let r : a - 128 < 128 = omega arith in
    let t : 128 + (a - 128) ≡ a = omega arith in
    rw e (groups_more 1 (a - 128) b r lb ∙ rw t (rw (groups_last 1 b hb)))

encode_three : (a b c : ℕ) → 128 ≤ a → a < 256 → 128 ≤ b → b < 256 → 0 < c → c < 128
    → encode ((a - 128) + 128 * (b - 128) + 16384 * c) ≡ a ∷ b ∷ c ∷ []
encode_three a b c la ha lb hb lc hc =
    let m : ℕ = c * 128 + (b - 128) in
    let e : (a - 128) + 128 * (b - 128) + 16384 * c ≡ (c * 128 + (b - 128)) * 128 + (a - 128) = omega arith in
    let r : a - 128 < 128 = omega arith in
    let r' : b - 128 < 128 = omega arith in
    let pos : 0 < c * 128 + (b - 128) = omega arith in
    let t : 128 + (a - 128) ≡ a = omega arith in
    let t' : 128 + (b - 128) ≡ b = omega arith in
    rw e (groups_more 1 (a - 128) (c * 128 + (b - 128)) r pos
    ∙ rw t (ap (λ xs. a ∷ xs) (groups_more 0 (b - 128) c r' lc ∙ rw t')))

-- a number has a byte
pub encode_some : (n : ℕ) → 0 < length (encode n)
encode_some n = cond_both (ltb n 128) _ _ (λ xs. 0 < length xs) (λ _. omega arith) (λ _. omega arith)

module _ (f : List ℕ) (p : ℕ) (octets : Octets f) where
  Taken : Result (Read ℕ) NumberFault → Type 0
  Taken r = IfOk r (λ n. IsNumber f p n.value n.next)

  sound : Taken (number_at f p)
  unfolding Taken
  sound =
      let a : ℕ = get_or f p 0 in
      let b : ℕ = get_or f (p + 1) 0 in
      let c : ℕ = get_or f (p + 2) 0 in
      cond_both (leb (length f) p) _ _ Taken (λ _. tt)
      (λ e0.
      let within : p < length f = leb-false _ _ e0 in
      let d1 : drop p f ≡ a ∷ drop (p + 1) f = drop_more f p 0 within in
      cond_both (ltb a 128) _ _ Taken
      (λ ea.
      let h : a < 128 = ltb-true a 128 ea in
      record { small = omega arith; inside = omega arith; bytes = rw (encode_one a h) d1 })
      (λ ea. cond_both (leb (length f) (p + 1)) _ _ Taken (λ _. tt)
      (λ el. cond_both (eqb b 0) _ _ Taken (λ _. tt)
      (λ ez.
      let la : 128 ≤ a = ltb-false a 128 ea in
      let w1 : p + 1 < length f = leb-false _ _ el in
      let lb : 0 < b = omega (arith, eqb-false b 0 ez) in
      let n1 : p + 1 + 1 ≡ p + 2 = omega arith in
      let d2 : drop (p + 1) f ≡ b ∷ drop (p + 2) f = subst (λ n. drop (p + 1) f ≡ b ∷ drop n f) n1 (drop_more f (p + 1) 0 w1) in
      cond_both (ltb b 128) _ _ Taken
      (λ eb.
      let hb : b < 128 = ltb-true b 128 eb in
      record {
        small = omega (arith, octets p);
        inside = omega arith;
        bytes = rw (encode_two a b la (octets p) lb hb) (d1 ∙ ap (λ xs. a ∷ xs) d2);
      })
      (λ eb. cond_both (leb (length f) (p + 2)) _ _ Taken (λ _. tt)
      (λ em. cond_both (eqb c 0 || leb 128 c) _ _ Taken (λ _. tt)
      (λ ec.
      let w2 : p + 2 < length f = leb-false _ _ em in
      let parts = or_parts (eqb c 0) (leb 128 c) ec in
      let lc : 0 < c = omega (arith, eqb-false c 0 parts.0) in
      let hc : c < 128 = leb-false 128 c parts.1 in
      let lb' : 128 ≤ b = ltb-false b 128 eb in
      let n2 : p + 2 + 1 ≡ p + 3 = omega arith in
      let d3 : drop (p + 2) f ≡ c ∷ drop (p + 3) f = subst (λ n. drop (p + 2) f ≡ c ∷ drop n f) n2 (drop_more f (p + 2) 0 w2) in
      record {
        small = omega (arith, octets p, octets (p + 1));
        inside = omega arith;
        bytes = rw (encode_three a b c la (octets p) lb' (octets (p + 1)) lc hc) (d1 ∙ ap (λ xs. a ∷ xs) (d2 ∙ ap (λ xs. b ∷ xs) d3));
      })))))))

  took : ℕ → ℕ → Result (Read ℕ) NumberFault
  took v q = Ok (record { value = v; next = q })

  bytes_long : (v q : ℕ) → IsNumber f p v q → length (drop p f) ≡ length (encode v) + length (drop q f)
  bytes_long v q h = ap length h.bytes ∙ length-append (encode v) (drop q f)

  -- a number begins before the end
  within_of : (v q : ℕ) → IsNumber f p v q → p < length f
  within_of v q h = omega (arith, bytes_long v q h, length-drop p f, encode_some v)

  -- the number that the first k of these bytes are has its end k further
  behind : (v q k : ℕ) → IsNumber f p v q → length (encode v) ≡ k → q ≡ p + k
  behind v q k h e =
      let within = within_of v q h in
      let l : length (drop p f) ≡ length (encode v) + length (drop q f) = bytes_long v q h in
      omega (arith, l, length-drop p f, length-drop q f, h.inside, within)

  complete : (v q : ℕ) → IsNumber f p v q → number_at f p ≡ took v q
  unfolding took
  complete v q h =
      let within = within_of v q h in
      let a : ℕ = get_or f p 0 in
      let b : ℕ = get_or f (p + 1) 0 in
      let c : ℕ = get_or f (p + 2) 0 in
      let d1 : drop p f ≡ a ∷ drop (p + 1) f = drop_more f p 0 within in
      cond-false (leb (length f) p) _ _ (lt-leb _ _ within)
      ∙ ⊎_elim
      (λ (small : v < 128).
      let shape : encode v ≡ v ∷ [] = encode_one v small in
      let same : a ∷ drop (p + 1) f ≡ v ∷ drop q f = sym d1 ∙ (h.bytes ∙ ap (λ xs. xs ++ drop q f) shape) in
      let va : a ≡ v = cc in
      let end : q ≡ p + 1 = behind v q 1 h (ap length shape) in
      cond-true (ltb a 128) _ _ (lt-ltb a 128 (omega arith)) ∙ cc)
      (λ (large : 128 ≤ v).
      let m : ℕ = v / 128 in
      let vm : m * 128 + v % 128 ≡ v = div-add-mod' v 128 in
      let vr : v % 128 < 128 = mod_below v 128 (omega arith) in
      let shape : encode v ≡ (128 + v % 128) ∷ groups 1 m = cond-false (ltb v 128) _ _ (le-ltb v 128 large) in
      let same : a ∷ drop (p + 1) f ≡ (128 + v % 128) ∷ (groups 1 m ++ drop q f) = sym d1 ∙ (h.bytes ∙ ap (λ xs. xs ++ drop q f) shape) in
      let va : a ≡ 128 + v % 128 = cc in
      let rest : drop (p + 1) f ≡ groups 1 m ++ drop q f = cc in
      ⊎_elim
      (λ (small : m < 128).
      let last : groups 1 m ≡ m ∷ [] = groups_last 1 m small in
      let end : q ≡ p + 2 = behind v q 2 h (ap length (shape ∙ ap (λ xs. (128 + v % 128) ∷ xs) last)) in
      let w1 : p + 1 < length f = omega (arith, h.inside) in
      let same' : b ∷ drop (p + 1 + 1) f ≡ m ∷ drop q f = sym (drop_more f (p + 1) 0 w1) ∙ (rest ∙ ap (λ xs. xs ++ drop q f) last) in
      let vb : b ≡ m = cc in
      let value : (a - 128) + 128 * b ≡ v = omega arith in
      cond-false (ltb a 128) _ _ (le-ltb a 128 (omega arith))
      ∙ (cond-false (leb (length f) (p + 1)) _ _ (lt-leb _ _ w1)
      ∙ (cond-false (eqb b 0) _ _ (ne_eqb b 0 (λ e. omega arith))
      ∙ (cond-true (ltb b 128) _ _ (lt-ltb b 128 (omega arith)) ∙ cc))))
      (λ (large' : 128 ≤ m).
      let n : ℕ = m / 128 in
      let mn : n * 128 + m % 128 ≡ m = div-add-mod' m 128 in
      let mr : m % 128 < 128 = mod_below m 128 (omega arith) in
      let shape' : groups 1 m ≡ (128 + m % 128) ∷ (n ∷ []) = cond-false (ltb m 128) _ _ (le-ltb m 128 large') in
      let end : q ≡ p + 3 = behind v q 3 h (ap length (shape ∙ ap (λ xs. (128 + v % 128) ∷ xs) shape')) in
      let w1 : p + 1 < length f = omega (arith, h.inside) in
      let w2 : p + 2 < length f = omega (arith, h.inside) in
      let n1 : p + 1 + 1 ≡ p + 2 = omega arith in
      let same' : b ∷ drop (p + 2) f ≡ (128 + m % 128) ∷ (n ∷ drop q f) = subst (λ i. b ∷ drop i f ≡ (128 + m % 128) ∷ (n ∷ drop q f)) n1 (sym (drop_more f (p + 1) 0 w1) ∙ (rest ∙ ap (λ xs. xs ++ drop q f) shape')) in
      let vb : b ≡ 128 + m % 128 = cc in
      let rest' : drop (p + 2) f ≡ n ∷ drop q f = cc in
      let same'' : c ∷ drop (p + 2 + 1) f ≡ n ∷ drop q f = sym (drop_more f (p + 2) 0 w2) ∙ rest' in
      let vc : c ≡ n = cc in
      let value : (a - 128) + 128 * (b - 128) + 16384 * c ≡ v = omega arith in
      cond-false (ltb a 128) _ _ (le-ltb a 128 (omega arith))
      ∙ (cond-false (leb (length f) (p + 1)) _ _ (lt-leb _ _ w1)
      ∙ (cond-false (eqb b 0) _ _ (ne_eqb b 0 (λ e. omega arith))
      ∙ (cond-false (ltb b 128) _ _ (le-ltb b 128 (omega arith))
      ∙ (cond-false (leb (length f) (p + 2)) _ _ (lt-leb _ _ w2)
      ∙ (cond-false (eqb c 0 || leb 128 c) _ _ (or_from (eqb c 0) (leb 128 c) (ne_eqb c 0 (λ e. omega arith)) (lt-leb 128 c (omega (arith, h.small)))) ∙ cc))))))
      (cases_lt m 128))
      (cases_lt v 128)

-- reading a number is exact
pub number_exact : NumberExact
unfolding Taken took
number_exact f p v q octets =
    ((λ e. MatchResult-at_ok (λ n. IsNumber f p n.value n.next) (λ _. Unit {0}) _ e (sound f p octets)), complete f p octets v q)

-- what is read at a place is exact
pub exact_from : (f : List ℕ) (p : ℕ) (r : Result ℕ NumberFault) (at v q : ℕ) → Octets f → read_to r at ≡ number_at f p
    → (read_to r at ≡ Ok (record { value = v; next = q })) ↔ IsNumber f p v q
exact_from f p r at v q octets is =
    let e = number_exact f p v q octets in
    ((λ h. e.0 (sym is ∙ h)), (λ h. is ∙ e.1 h))
