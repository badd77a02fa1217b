-- Parts of a list of bytes, one after the other.
use Rattle.std.proofs.Common.{◌≡◌, ℕ, ◌+◌, ◌-◌, ◌≤◌, List, [], ◌++◌, length, take, drop, sym, refl, ap, ◌∙◌, arith}
use Rattle.std.proofs.lemmas.List.{append_assoc, drop-drop, drop_at, take_at, length-append, length-drop}

-- the bytes from p up to q
pub record Spans (f : List ℕ) (p : ℕ) (bytes : List ℕ) (q : ℕ) : Type 0 where
  pub are : drop p f ≡ bytes ++ drop q f
  pub inside : q ≤ length f

module _ (f : List ℕ) where
  pub join : (p q r : ℕ) (a b : List ℕ) → Spans f p a q → Spans f q b r → Spans f p (a ++ b) r
  join p q r a b s t = record { are = s.are ∙ (ap (λ x. a ++ x) t.are ∙ sym (append_assoc a b (drop r f))); inside = t.inside }

  -- where a part ends
  pub span_end : (p q : ℕ) (a : List ℕ) → p ≤ length f → Spans f p a q → q ≡ p + length a
  span_end p q a h s =
      let l : length (drop p f) ≡ length a + length (drop q f) = ap length s.are ∙ length-append a (drop q f) in
      omega (arith, l, length-drop p f, length-drop q f, s.inside)

  pub split : (p r : ℕ) (a b : List ℕ) → p ≤ length f → Spans f p (a ++ b) r → Spans f p a (p + length a) × Spans f (p + length a) b r
  split p r a b h s =
      let whole : drop p f ≡ a ++ (b ++ drop r f) = s.are ∙ append_assoc a b (drop r f) in
      let rest : drop (p + length a) f ≡ b ++ drop r f = sym (drop-drop (length a) p f) ∙ (ap (drop (length a)) whole ∙ drop_at a (b ++ drop r f) (length a) refl) in
      let l : length (drop p f) ≡ length a + length (b ++ drop r f) = ap length whole ∙ length-append a (b ++ drop r f) in
      let m = length-append b (drop r f) in (
        record { are = whole ∙ ap (λ x. a ++ x) (sym rest); inside = split_inside p r (length a) (length b) s.inside h (l ∙ ap (λ k. length a + k) m) },
        record { are = rest; inside = s.inside },
      )
    where
      split_inside : (p r a b : ℕ) → r ≤ length f → p ≤ length f → length (drop p f) ≡ a + (b + length (drop r f)) → p + a ≤ length f
      split_inside p r a b hr hp e = omega (arith, e, length-drop p f, length-drop r f)

  -- the part is what it is
  pub span_take : (p q : ℕ) (a : List ℕ) → p ≤ length f → Spans f p a q → take (q - p) (drop p f) ≡ a
  span_take p q a h s =
      let e = span_end p q a h s in
      let n : length a ≡ q - p = omega arith in
      ap (take (q - p)) s.are ∙ take_at a (drop q f) (q - p) n

  pub span_none : (p : ℕ) → p ≤ length f → Spans f p [] p
  span_none p h = record { are = refl; inside = h }
