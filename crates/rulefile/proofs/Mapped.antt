-- An array that is mapped by a function of its elements.
use Rattle.std.proofs.Common.{◌≡◌, ℕ, List, length, map, get_or, ◌∙◌, sym, arith}
use Rattle.std.proofs.lemmas.List.{same_lists, length-map, get_or-map}
use Rattle.std.specs.Array.{IsMapOf}
use Rattle.std.specs.Fn.{Mut, Called}

pub mapped_is : {F A B : Type 0} (g : Mut F (A × Unit {0}) B) (f : F) (v : A → B) (xs : List A) (ys : List B) (n : ℕ) (a : A) → IsMapOf g f xs ys n
    → length xs ≡ n → ((p q : F) (x : A) (y : B) → Called g p (x, tt) y q → y ≡ v x) → ys ≡ map v xs
mapped_is g f v xs ys n a m long told =
    same_lists ys (map v xs) (m.long ∙ (sym long ∙ sym (length-map xs v))) (λ k d h.
    let t = m.at k a d (omega (arith, m.long)) in
    told t.0 t.1 (get_or xs k a) (get_or ys k d) t.2 ∙ sym (get_or-map v xs k a d (omega (arith, m.long))))
