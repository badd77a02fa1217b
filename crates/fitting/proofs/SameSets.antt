-- Comparing the sets of the events that a cell covers with that of the lowest, one by one.
use Rattle.std.proofs.Common.{◌≡◌, ℕ, ◌<◌, Bool, true, eqb, sym, ◌∙◌, eq-eqb, eqb→eq}
use Rattle.std.specs.List.{list_all}
use Rattle.std.proofs.lemmas.List.Elements.{All-weaker}
use Rattle.std.proofs.lemmas.List.Sums.{AllPass-from_list_all, list_all-from_AllPass}
use Rattle.events.specs.Sets.{has, members_of}
use Rattle.events.specs.Cells.{Covers, covers, lowest}
use Rattle.events.proofs.SetLaws.{T_true, true_T}
use Rattle.events.proofs.CellLaws.{covers_is, lowest_small, lowest-covered}
use Rattle.events.proofs.MemberLaws.{Member, each-member, members-in}
use Rattle.rules.specs.trees.Bests.{Constant}

-- whether an event's set is that of the lowest event that the cell covers
abbrev pub as_lowest : (ℕ → ℕ) → ℕ → ℕ → Bool
as_lowest wants cell e = eqb (wants e) (wants (lowest cell))

module _ (wants : ℕ → ℕ) (cell events : ℕ) (covered : (e : ℕ) → e < 64 → has events e ≡ covers cell e) where
  -- all that are covered have it
  pub all_same : list_all (as_lowest wants cell) (members_of events) ≡ true → Constant wants cell
  all_same all a b la lb ca cb = at a la ca ∙ sym (at b lb cb)
    where
      at : (e : ℕ) → e < 64 → Covers cell e → wants e ≡ wants (lowest cell)
      at e l c =
          eqb→eq (wants e) (wants (lowest cell)) (true_T (as_lowest wants cell e)
          (each-member (λ k. as_lowest wants cell k ≡ true) events e (AllPass-from_list_all (as_lowest wants cell) (members_of events) all) l (covered e l ∙ T_true (covers cell e) ((covers_is cell e).1 c))))

  -- and they have it, where all have the same
  pub same_all : Constant wants cell → list_all (as_lowest wants cell) (members_of events) ≡ true
  same_all same =
      list_all-from_AllPass (as_lowest wants cell) (members_of events)
      (All-weaker (Member events) (λ k. as_lowest wants cell k ≡ true)
      (λ k h. eq-eqb (wants k) (wants (lowest cell)) (same k (lowest cell) h.0 (lowest_small cell) ((covers_is cell k).0 (true_T (covers cell k) (sym (covered k h.0) ∙ h.1))) (lowest-covered cell)))
      (members_of events) (members-in events))
