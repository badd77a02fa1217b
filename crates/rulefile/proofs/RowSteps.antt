-- A row that is read one by one: what is left gives the same.
use Rattle.std.proofs.Common.{◌≡◌, ℕ, zero, suc, ◌+◌, ◌-◌, ◌<◌, true, List, [], ◌∷◌, ◌++◌, length, get_or, take, set, is_ok, Ok, Err, Result, sym, refl, ap, ◌∙◌, arith}
use Rattle.rulefile.specs.declared.fault.FileFault.{FileFault}
use Rattle.codec.specs.Reading.{Read}
use Rattle.codec.specs.Steps.{and_then}
use Rattle.std.proofs.lemmas.List.{take_more_set, append_assoc, length-take-le, take_more, get_or_at}
use Rattle.codec.proofs.Steps.{inside_ok}
use Rattle.rulefile.specs.File.{row_from, read_by}

-- a result by another function with the same values
pub by_same : {A B : Type 0} (g h : A → B) (r : Result (Read A) FileFault) → ((x : A) → g x ≡ h x) → read_by g r ≡ read_by h r
by_same g h (Ok a) e = let s = e a.value in rw s
by_same g h (Err d) e = refl

module _ {A S B : Type 0} (kept : S → A → S) (one : S → ℕ → Result (Read A) FileFault) where
  -- the first is a fault
  pub row_fault : (g : List A → B) (s : S) (p i n : ℕ) (e : FileFault) → i < n → one s p ≡ Err e
      → read_by g (row_from kept one s p (n - i)) ≡ Err e
  unfolding row_from
  row_fault g s p i n e l h = let k : n - i ≡ suc (n - (i + 1)) = omega arith in rw (k, h)

  pushed : (g : List A → B) (x : A) (r : Result (Read (List A)) FileFault)
      → read_by g (and_then (λ e. e) r (λ r. Ok (record { value = x ∷ r.value; next = r.next }))) ≡ read_by (λ xs. g (x ∷ xs)) r
  pushed g x (Ok r) = refl
  pushed g x (Err e) = refl

  -- the first is read, and what is kept of it is what the next begins with
  pub row_more : (g h : List A → B) (s s' : S) (p q i n : ℕ) (x : A) → i < n → one s p ≡ Ok (record { value = x; next = q }) → s' ≡ kept s x
      → ((xs : List A) → g (x ∷ xs) ≡ h xs) → read_by g (row_from kept one s p (n - i)) ≡ read_by h (row_from kept one s' q (n - (i + 1)))
  unfolding row_from
  row_more g h s s' p q i n x l e after same =
      let k : n - i ≡ suc (n - (i + 1)) = omega arith in
      rw (k, e, after) (pushed g x (row_from kept one (kept s x) q (n - (i + 1))) ∙ by_same _ h _ same)

  -- none is left
  pub row_end : (g : List A → B) (s : S) (p : ℕ) → read_by g (row_from kept one s p 0) ≡ Ok (record { value = g []; next = p })
  unfolding row_from
  row_end g s p = refl

-- one more record is written
pub wrote_more : {A : Type 0} (done : List A) (i : ℕ) (a : A) (xs : List A) → i < length done → take i done ++ (a ∷ xs) ≡ take (i + 1) (set done i a) ++ xs
wrote_more done i a xs l = rw (take_more_set done i a l, append_assoc)

-- rows that are good are no fault
pub no_fault : {A : Type 0} (r : Result (Read (List A)) FileFault) (e : FileFault) → is_ok r ≡ true → r ≡ Err e → ⊥
no_fault r e ok h = let f = ap is_ok h in let z : ◌≡◌ {A = ℕ} 0 1 = cc in omega arith

-- a fault that was read by a function is the fault
pub by_err : {A B : Type 0} (g : A → B) (r : Result (Read A) FileFault) (e : FileFault) → Err e ≡ read_by g r → r ≡ Err e
by_err g (Ok a) e h = let z : ◌≡◌ {A = ℕ} 0 1 = cc in absurd (omega arith)
by_err g (Err d) e h = cc

-- what was read by a function was read
pub by_ok : {A B : Type 0} (g : A → B) (r : Result (Read A) FileFault) (b : Read B) → Ok b ≡ read_by g r
    → (v : A) × (r ≡ Ok (record { value = v; next = b.next })) × (b.value ≡ g v)
by_ok g (Ok a) b h = (a.value, let e : b.next ≡ a.next = ap (λ x. x.next) (inside_ok h) in rw e, ap (λ x. x.value) (inside_ok h))
by_ok g (Err d) b h = let z : ◌≡◌ {A = ℕ} 0 1 = cc in absurd (omega arith)

module _ {A S : Type 0} (kept : S → A → S) (one : S → ℕ → Result (Read A) FileFault) where
  pushed_ok : (x : A) (r : Result (Read (List A)) FileFault) (b : Read (List A))
      → ◌≡◌ {A = Result (Read (List A)) FileFault} (and_then (λ e. e) r (λ r. Ok (record { value = x ∷ r.value; next = r.next }))) (Ok b)
      → (rest : Read (List A)) × (r ≡ Ok rest) × (b.value ≡ x ∷ rest.value) × (b.next ≡ rest.next)
  pushed_ok x (Ok r) b h = (r, refl, ap (λ x. x.value) (sym (inside_ok h)), ap (λ x. x.next) (sym (inside_ok h)))
  pushed_ok x (Err e) b h = let z : ◌≡◌ {A = ℕ} 0 1 = cc in absurd (omega arith)

  -- a row is as long as was asked
  pub row_length : (k : ℕ) (s : S) (p : ℕ) (r : Read (List A)) → row_from kept one s p k ≡ Ok r → length r.value ≡ k
  unfolding row_from
  row_length zero s p r h = ap (λ x. length x.value) (sym (inside_ok h))
  row_length (suc k) s p r h = go (one s p) refl (λ s' p' r' e. row_length k s' p' r' e)
    where
      go : (x : Result (Read A) FileFault) → one s p ≡ x → ((s : S) (p : ℕ) (r : Read (List A)) → row_from kept one s p k ≡ Ok r → length r.value ≡ k) → length r.value ≡ suc k
      go (Ok a) e shorter =
          let t = pushed_ok a.value (row_from kept one (kept s a.value) a.next k) r (rw e at h) in
          ap length t.2 ∙ ap suc (shorter (kept s a.value) a.next t.0 t.1)
      go (Err d) e shorter = let h' = rw e at h in let z : ◌≡◌ {A = ℕ} 0 1 = cc in absurd (omega arith)

-- one more record is the same
pub same_more : {A : Type 0} (done : List A) (i : ℕ) (d a : A) (xs : List A) → i < length done → get_or done i d ≡ a → take i done ++ (a ∷ xs) ≡ take (i + 1) done ++ xs
same_more done i d a xs l e = rw (take_more done i d l, e, append_assoc)

-- one is another
pub differs : {A : Type 0} (done : List A) (i : ℕ) (d a : A) (rest r : Result (Read (List A)) FileFault) → i < length done
    → read_by (λ xs. take i done ++ (a ∷ xs)) rest ≡ r → (end : ℕ) × (r ≡ Ok (record { value = done; next = end })) → get_or done i d ≡ a
differs done i d a (Ok x) r l e h =
    let same : done ≡ take i done ++ (a ∷ x.value) = ap (λ n. n.value) (inside_ok (sym h.1 ∙ sym e)) in
    let long : length (take i done) ≡ i = length-take-le i done (omega arith) in
    ap (λ xs. get_or xs i d) same ∙ get_or_at (take i done) a x.value d i long
differs done i d a (Err f) r l e h = let bad = sym h.1 ∙ sym e in let z : ◌≡◌ {A = ℕ} 0 1 = cc in absurd (omega arith)

-- a fault is no row
pub no_row : {A : Type 0} (xs : List A) (r : Result (Read (List A)) FileFault) (e : FileFault) → r ≡ Err e → (end : ℕ) × (r ≡ Ok (record { value = xs; next = end })) → ⊥
no_row xs r e h k = let bad = sym h ∙ k.1 in let z : ◌≡◌ {A = ℕ} 0 1 = cc in omega arith
