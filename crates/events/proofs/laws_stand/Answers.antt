-- Each law, by its proof.
use Rattle.std.proofs.Common.{ℕ, ◌^◌, subst}
use Rattle.events.specs.Sets.{◌∈◌}
use Rattle.events.proofs.SetLaws.{∈-or, ∈-and, ∈_none, ∈_one, ∈_one_is, ∈_every, ∈_below, same_members, ∈-set_of, ∈_union, every_small}
use Rattle.events.proofs.CellLaws.{covers_is, lowest_small, lowest-covered, lowest_least}
use Rattle.events.proofs.FourCells.{four_cells}
use Rattle.events.proofs.laws_stand.Goals as goal

pub returns : goal.returns
returns c = record {
  union = ∈-or;
  shared = ∈-and;
  none = ∈_none;
  one = λ k j. (∈_one_is k j, λ e. subst (λ (m : ℕ). k ∈ 2 ^ m) e (∈_one k));
  every = λ n k. (∈_below n k _ (every_small n), ∈_every n k);
  below = ∈_below;
  same = same_members;
  tested = ∈-set_of;
  over = ∈_union;
  covers = covers_is;
  lowest = λ cell. (lowest_small cell, lowest-covered cell, lowest_least cell);
  cells = four_cells;
}
