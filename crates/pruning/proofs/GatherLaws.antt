-- A bit added to the sets of the covered events, one event at a time, the lowest first.
use Rattle.std.proofs.Common.{◌≡◌, ℕ, ◌<◌, Bool, true, false, cond, T, ◌⊎◌, List, length, get_or, set, sym, ap, ◌∙◌, subst, inl, inr, arith, length-set, get_or-set_other, get_or-set_same}
use lib.Bits.{bit_or}
use Rattle.std.proofs.lemmas.Bool.{cases_eq}
use Rattle.events.specs.Sets.{has}
use Rattle.events.proofs.MemberLaws.{Taken}

-- the sets with a bit added to those of the covered events that are not left
pub record Adding (start sets : List ℕ) (covered rest bit : ℕ) : Type 0 where
  pub long : length sets ≡ 64
  pub inside : (e : ℕ) → e < 64 → has rest e ≡ true → has covered e ≡ true
  pub done : (e : ℕ) → e < 64 → has rest e ≡ false → get_or sets e 0 ≡ cond (has covered e) (bit_or (get_or start e 0) bit) (get_or start e 0)
  pub left : (e : ℕ) → e < 64 → has rest e ≡ true → get_or sets e 0 ≡ get_or start e 0

module _ (start sets : List ℕ) (covered rest bit x less : ℕ) (inv : Adding start sets covered rest bit) (turn : Taken rest x less) where
  pub adding_more : (new : List ℕ) → new ≡ set sets x (bit_or (get_or sets x 0) bit) → Adding start new covered less bit
  adding_more new is = record {
    long = ap length is ∙ length-set sets x (bit_or (get_or sets x 0) bit) ∙ inv.long;
    inside = λ e l h. still_in e l h (cases_eq e x);
    done = λ e l h. now_done e l h (cases_eq e x);
    left = λ e l h. still_left e l h (cases_eq e x);
  }
    where
      not_left : (e : ℕ) → has less e ≡ true → e ≡ x → ⊥
      not_left e h p = subst T (sym h ∙ ap (has less) p ∙ turn.gone) tt

      still_in : (e : ℕ) → e < 64 → has less e ≡ true → (e ≡ x) ⊎ (e ≡ x → ⊥) → has covered e ≡ true
      still_in e l h (inl p) = absurd (not_left e h p)
      still_in e l h (inr ne) = inv.inside e l (sym (turn.others e l ne) ∙ h)

      at_other : (e : ℕ) → (e ≡ x → ⊥) → get_or new e 0 ≡ get_or sets e 0
      at_other e ne = ap (λ (xs : List ℕ). get_or xs e 0) is ∙ get_or-set_other sets x e (bit_or (get_or sets x 0) bit) 0 ne

      at_low : get_or new x 0 ≡ cond (has covered x) (bit_or (get_or start x 0) bit) (get_or start x 0)
      at_low =
          ap (λ (xs : List ℕ). get_or xs x 0) is
          ∙ get_or-set_same sets x (bit_or (get_or sets x 0) bit) 0 (omega (arith, inv.long, turn.low))
          ∙ ap (λ (s : ℕ). bit_or s bit) (inv.left x turn.low turn.member)
          ∙ sym (ap (λ (b : Bool). cond b (bit_or (get_or start x 0) bit) (get_or start x 0)) (inv.inside x turn.low turn.member))

      now_done : (e : ℕ) → e < 64 → has less e ≡ false → (e ≡ x) ⊎ (e ≡ x → ⊥) → get_or new e 0 ≡ cond (has covered e) (bit_or (get_or start e 0) bit) (get_or start e 0)
      now_done e l h (inl p) = subst (λ (k : ℕ). get_or new k 0 ≡ cond (has covered k) (bit_or (get_or start k 0) bit) (get_or start k 0)) (sym p) at_low
      now_done e l h (inr ne) = at_other e ne ∙ inv.done e l (sym (turn.others e l ne) ∙ h)

      still_left : (e : ℕ) → e < 64 → has less e ≡ true → (e ≡ x) ⊎ (e ≡ x → ⊥) → get_or new e 0 ≡ get_or start e 0
      still_left e l h (inl p) = absurd (not_left e h p)
      still_left e l h (inr ne) = at_other e ne ∙ inv.left e l (sym (turn.others e l ne) ∙ h)
