-- The cost in whole numbers is the expected cost as a fraction, times 10 ^ 12.
use Rattle.std.proofs.Common.{◌≡◌, ℕ, zero, suc, ◌+◌, ◌*◌, ◌^◌, ◌<◌, ◌≤◌, Bool, true, false, ◌⊎◌, List, sym, refl, ap, ◌∙◌, subst, ap₂, inl, inr, not-suc-le-zero, mul_assoc, mul_comm, add-mul, one-mul, pow-suc, mul-zero, mul-one, mul-add, mul_left_comm, arith}
use lib.Bits.{bit_or}
use Rattle.std.proofs.lemmas.Bool.{cases_eq}
use Rattle.rules.specs.declared.Line.{Line}
use Rattle.events.specs.Sets.{has, ◌∈◌}
use Rattle.rules.specs.trees.Trees.{Tree, leaf, fork, PollsOnce}
use Rattle.rules.specs.trees.Costs.{cost_of, expected, mean_cost, IsTrillionfold}
use Rattle.events.proofs.SetLaws.{T_true, T_false, ∈-or, ∈_one, ∈_one_is, dec∈}

-- ---- a tree that polls no line twice has at most as many forks on a way down as there are lines free

-- every way down has at most u forks
abbrev pub Depth : ℕ → Tree → Type 0
Depth u (leaf set) = Unit {0}
Depth zero (fork line on off) = ⊥
Depth (suc u) (fork line on off) = Depth u on × Depth u off

abbrev pub one_if_free : Bool → ℕ
one_if_free true = 0
one_if_free false = 1

-- how many of the lines below n are not in the set
abbrev pub free : ℕ → ℕ → ℕ
free zero above = 0
free (suc n) above = free n above + one_if_free (has above n)

pub free_few : (n above : ℕ) → free n above ≤ n
free_few zero above = omega arith
free_few (suc n) above = omega (arith, free_few n above, bit (has above n))
  where
    bit : (b : Bool) → one_if_free b ≤ 1
    bit true = omega arith
    bit false = omega arith

has_same : (line above k : ℕ) → (k ≡ line → ⊥) → has (bit_or (2 ^ line) above) k ≡ has above k
has_same line above k ne = go (dec∈ k above)
  where
    drop_one : (k ∈ 2 ^ line) ⊎ (k ∈ above) → k ∈ above
    drop_one (inl h) = absurd (ne (∈_one_is k line h))
    drop_one (inr h) = h

    go : (k ∈ above) ⊎ (k ∈ above → ⊥) → has (bit_or (2 ^ line) above) k ≡ has above k
    go (inl h) = T_true _ ((∈-or k (2 ^ line) above).1 (inr h)) ∙ sym (T_true _ h)
    go (inr n) = T_false _ (λ h. n (drop_one ((∈-or k (2 ^ line) above).0 h))) ∙ sym (T_false _ n)

free_same : (n line above : ℕ) → n ≤ line → free n (bit_or (2 ^ line) above) ≡ free n above
free_same zero line above l = refl
free_same (suc n) line above l =
    ap₂ (λ (x y : ℕ). x + y) (free_same n line above (omega arith)) (ap one_if_free (has_same line above n (λ e. let no_way : ⊥ = omega arith in no_way)))

free_less : (n line above : ℕ) → line < n → (line ∈ above → ⊥) → suc (free n (bit_or (2 ^ line) above)) ≡ free n above
free_less zero line above l out = absurd (not-suc-le-zero l)
free_less (suc n) line above l out = step n line above l out (free_less n line above) (cases_eq n line)
  where
    step : (n line above : ℕ) → line < suc n → (line ∈ above → ⊥) → (line < n → (line ∈ above → ⊥) → suc (free n (bit_or (2 ^ line) above)) ≡ free n above)
        → (n ≡ line) ⊎ (n ≡ line → ⊥) → suc (free (suc n) (bit_or (2 ^ line) above)) ≡ free (suc n) above
    step n line above l out ih (inl e) = omega (arith, same, now, before)
      where
        same : free n (bit_or (2 ^ line) above) ≡ free n above
        same = free_same n line above (omega arith)

        now : one_if_free (has (bit_or (2 ^ line) above) n) ≡ 0
        now = ap one_if_free (T_true (has (bit_or (2 ^ line) above) n) ((∈-or n (2 ^ line) above).1 (inl (subst (λ (m : ℕ). n ∈ 2 ^ m) e (∈_one n)))))

        before : one_if_free (has above n) ≡ 1
        before = ap one_if_free (T_false (has above n) (λ h. out (subst (λ (m : ℕ). m ∈ above) e h)))
    step n line above l out ih (inr ne) = omega (arith, less, same)
      where
        less : suc (free n (bit_or (2 ^ line) above)) ≡ free n above
        less = ih (omega arith) out

        same : one_if_free (has (bit_or (2 ^ line) above) n) ≡ one_if_free (has above n)
        same = ap one_if_free (has_same line above n ne)

pub depth_of : (t : Tree) (u above : ℕ) → PollsOnce above t → free 6 above ≤ u → Depth u t
depth_of (leaf set) u above p l = tt
depth_of (fork line on off) zero above p l = absurd (let no_way : ⊥ = omega (arith, free_less 6 line above p.0 p.1) in no_way)
depth_of (fork line on off) (suc u) above p l = (
  depth_of on u (bit_or (2 ^ line) above) p.2 (omega (arith, free_less 6 line above p.0 p.1)),
  depth_of off u (bit_or (2 ^ line) above) p.3 (omega (arith, free_less 6 line above p.0 p.1)),
)

-- ---- the fraction

ruleset products = (one-mul, mul-one, mul_assoc, mul_comm, mul_left_comm)

-- the three parts of a fork's cost times the lower part, where m a = Y o
part_cost : (c a b Y H : ℕ) → c * (Y * H) * (1 * (H * a) * (H * b)) ≡ Y * H * (c * (H * a) * (H * b))
part_cost c a b Y H = simp products

part_on : (p m a b o Y H : ℕ) → m * a ≡ Y * o → p * m * (1 * (H * a) * (H * b)) ≡ Y * H * (p * o * 1 * (H * b))
part_on p m a b o Y H e = left ∙ (ap (λ (x : ℕ). p * x * (H * (H * b))) e ∙ right)
  where
    left : p * m * (1 * (H * a) * (H * b)) ≡ p * (m * a) * (H * (H * b))
    left = simp products

    right : p * (Y * o) * (H * (H * b)) ≡ Y * H * (p * o * 1 * (H * b))
    right = simp products

part_off : (q n a b r Y H : ℕ) → n * b ≡ Y * r → q * n * (1 * (H * a) * (H * b)) ≡ Y * H * (q * r * (1 * (H * a)))
part_off q n a b r Y H e = left ∙ (ap (λ (x : ℕ). q * x * (H * (H * a))) e ∙ right)
  where
    left : q * n * (1 * (H * a) * (H * b)) ≡ q * (n * b) * (H * (H * a))
    left = simp products

    right : q * (Y * r) * (H * (H * a)) ≡ Y * H * (q * r * (1 * (H * a)))
    right = simp products

fork_step : (c p q m n a b o r Y H : ℕ) → m * a ≡ Y * o → n * b ≡ Y * r
    → (c * (Y * H) + p * m + q * n) * (1 * (H * a) * (H * b)) ≡ Y * H * ((c * (H * a) + p * o * 1) * (H * b) + q * r * (1 * (H * a)))
fork_step c p q m n a b o r Y H e f = left ∙ (ap₂ (λ (x y : ℕ). x + y) (ap₂ (λ (x y : ℕ). x + y) (part_cost c a b Y H) (part_on p m a b o Y H e)) (part_off q n a b r Y H f) ∙ sym right)
  where
    left : (c * (Y * H) + p * m + q * n) * (1 * (H * a) * (H * b)) ≡ c * (Y * H) * (1 * (H * a) * (H * b)) + p * m * (1 * (H * a) * (H * b)) + q * n * (1 * (H * a) * (H * b))
    left = add-mul (c * (Y * H) + p * m) (q * n) _ ∙ ap (λ (x : ℕ). x + q * n * (1 * (H * a) * (H * b))) (add-mul (c * (Y * H)) (p * m) _)

    right : Y * H * ((c * (H * a) + p * o * 1) * (H * b) + q * r * (1 * (H * a))) ≡ Y * H * (c * (H * a) * (H * b)) + Y * H * (p * o * 1 * (H * b)) + Y * H * (q * r * (1 * (H * a)))
    right = mul-add (Y * H) _ _ ∙ ap (λ (x : ℕ). x + Y * H * (q * r * (1 * (H * a)))) (ap (λ (x : ℕ). Y * H * x) (add-mul (c * (H * a)) (p * o * 1) (H * b)) ∙ mul-add (Y * H) _ _)

pub mean_times : (lines : List Line) (t : Tree) (u : ℕ) → Depth u t → cost_of expected lines u t * (mean_cost lines t).under ≡ 100 ^ u * (mean_cost lines t).over
mean_times lines (leaf set) u d = sym (mul-zero (100 ^ u))
mean_times lines (fork line on off) zero d = absurd d
mean_times lines (fork line on off) (suc u) d = rw (pow-suc 100 u)
    (fork_step _ _ _ (cost_of expected lines u on) (cost_of expected lines u off) (mean_cost lines on).under (mean_cost lines off).under (mean_cost lines on).over (mean_cost lines off).over (100 ^ u) 100
    (mean_times lines on u d.0) (mean_times lines off u d.1))

pub mean_trillionfold : (lines : List Line) (t : Tree) → PollsOnce 0 t → IsTrillionfold (mean_cost lines t) (cost_of expected lines 6 t)
mean_trillionfold lines t p = mean_times lines t 6 (depth_of t 6 0 p (free_few 6 0))
