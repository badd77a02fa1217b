-- Trees written into a list of nodes: a leaf, and a fork after its two parts.
use Rattle.std.proofs.Common.{◌≡◌, ℕ, suc, ◌+◌, ◌*◌, ◌^◌, ◌<◌, ◌⊎◌, List, [], ◌∷◌, ◌++◌, Option, None, Some, length, get_or, set, sym, refl, ap, ◌∙◌, subst, ap₂, inl, inr, mul_comm, pow-suc, add-one, arith}
use Rattle.std.specs.Option.{IfSome, IsSomeAnd, unwrap_or}
use Rattle.std.proofs.lemmas.Nat.{pow_pos}
use Rattle.std.proofs.lemmas.List.{length-set, set_comm}
use Rattle.events.specs.Cells.{Free, free_in, lowest, on_cell, off_cell}
use Rattle.events.proofs.CellLaws.{lowest_small, lowest-covered}
use Rattle.rules.specs.declared.Node.{Node}
use Rattle.rules.specs.declared.Node.TheVariants as node
use Rattle.rules.specs.trees.Trees.{Tree, leaf, fork}
use Rattle.rules.specs.trees.Layouts.{size_of, nodes_from}
use Rattle.rules.specs.trees.Bests.{Constant, BestTree}
use Rattle.rules.proofs.trees.BestLaws.{on_below, off_below}
use Rattle.rules.proofs.trees.ConstantLaws.{constant_decided}
use Rattle.rules.proofs.trees.LayoutLaws.{nodes_length}
use Rattle.fitting.specs.States.{overwrite, Written}
use Rattle.fitting.specs.Tables.{line_at, Chosen}

-- ---- one part after the other

pub length-overwrite : {A : Type 0} (xs : List A) (i : ℕ) (ys : List A) → length (overwrite xs i ys) ≡ length xs
length-overwrite xs i [] = refl
length-overwrite xs i (y ∷ ys) = length-overwrite (set xs i y) (i + 1) ys ∙ length-set xs i y

pub overwrite-append : {A : Type 0} (xs : List A) (i : ℕ) (ys zs : List A) (j : ℕ) → j ≡ i + length ys → overwrite xs i (ys ++ zs) ≡ overwrite (overwrite xs i ys) j zs
overwrite-append xs i [] zs j e = ap (λ (k : ℕ). overwrite xs k zs) (omega arith)
overwrite-append xs i (y ∷ ys) zs j e = overwrite-append (set xs i y) (i + 1) ys zs j (omega arith)

pub set-overwrite : {A : Type 0} (xs : List A) (i j : ℕ) (y : A) (ys : List A) → i < j → set (overwrite xs j ys) i y ≡ overwrite (set xs i y) j ys
set-overwrite xs i j y [] h = refl
set-overwrite xs i j y (z ∷ ys) h =
    set-overwrite (set xs j z) i (j + 1) y ys (omega arith)
    ∙ ap (λ (l : List _). overwrite l (j + 1) ys) (set_comm xs j i z y (omega arith))

-- the on part, the off part behind it, and the fork before them
fork_nodes : (nodes : List Node) (place p i off : ℕ) (on-part off_part : Tree) → p ≡ place + 1 → off ≡ p + size_of on-part
    → set (overwrite (overwrite nodes p (nodes_from p on-part)) off (nodes_from off off_part)) place (node.Fork i p off)
    ≡ overwrite nodes place (nodes_from place (fork i on-part off_part))
fork_nodes nodes place p i off on-part off_part e d =
    set-overwrite (overwrite nodes p ons) place off top offs (omega arith)
    ∙ ap (λ (l : List Node). overwrite l off offs) (set-overwrite nodes place p top ons (omega arith))
    ∙ sym (overwrite-append (set nodes place top) p ons offs off (d ∙ ap (λ (n : ℕ). p + n) (sym (nodes_length on-part p))))
    ∙ ap (λ (n : ℕ). overwrite (set nodes place top) n (ons ++ offs)) e
    ∙ ap₂ (λ (a b : ℕ). overwrite nodes place (node.Fork i a b ∷ (nodes_from a on-part ++ nodes_from b off_part))) first second
  where
    top : Node
    top = node.Fork i p off

    ons : List Node
    ons = nodes_from p on-part

    offs : List Node
    offs = nodes_from off off_part

    first : p ≡ suc place
    first = e ∙ add-one place

    second : off ≡ suc place + size_of on-part
    second = d ∙ ap (λ (n : ℕ). n + size_of on-part) first

-- the two cells that fix a free line have one free line less, and half of the room
pub record Halves (cell on off : ℕ) : Type 0 where
  pub on_fewer : suc (free_in on) ≡ free_in cell
  pub off_fewer : suc (free_in off) ≡ free_in cell
  pub on-half : 2 ^ suc (free_in cell) ≡ 2 * 2 ^ suc (free_in on)
  pub off-half : 2 ^ suc (free_in cell) ≡ 2 * 2 ^ suc (free_in off)
  pub some : 0 < 2 ^ suc (free_in on)

half_room : (cell child : ℕ) → suc (free_in child) ≡ free_in cell → 2 ^ suc (free_in cell) ≡ 2 * 2 ^ suc (free_in child)
half_room cell child fewer = ap (λ (n : ℕ). 2 ^ suc n) (sym fewer) ∙ pow-suc 2 (suc (free_in child)) ∙ mul_comm (2 ^ suc (free_in child)) 2

pub halves : (cell line on off : ℕ) → cell < 729 → Free cell line × (on ≡ on_cell cell line) × (off ≡ off_cell cell line) → Halves cell on off
halves cell line on off low (free, on-is, off-is) =
    let less_on : suc (free_in on) ≡ free_in cell = subst (λ (n : ℕ). suc (free_in n) ≡ free_in cell) (sym on-is) (on_below cell line low free).fewer in
    let less_off : suc (free_in off) ≡ free_in cell = subst (λ (n : ℕ). suc (free_in n) ≡ free_in cell) (sym off-is) (off_below cell line low free).fewer in
    record { on_fewer = less_on; off_fewer = less_off; on-half = half_room cell on less_on; off-half = half_room cell off less_off; some = pow_pos (suc (free_in on)) }

-- ---- a leaf

module _ (wants : ℕ → ℕ) (table : List (Option ℕ)) (chosen : Chosen wants table) (cell : ℕ) (low : cell < 729) where
  -- where no line is chosen, the cell is constant
  leaf_constant : get_or table cell None ≡ None → Constant wants cell
  leaf_constant none = go (constant_decided wants cell)
    where
      go : Constant wants cell ⊎ (Constant wants cell → ⊥) → Constant wants cell
      go (inl same) = same
      go (inr varies) = absurd (subst (λ (o : Option ℕ). IsSomeAnd o (Free cell)) none (chosen.free cell low varies))

  pub leaf_written : get_or table cell None ≡ None → (nodes : List Node) (place : ℕ) → Written wants (line_at table) cell place nodes (set nodes place (node.Leaf (wants (lowest cell)))) (place + 1)
  leaf_written none nodes place = record {
    tree = leaf (wants (lowest cell));
    best = λ e l c. leaf_constant none e (lowest cell) l (lowest_small cell) c (lowest-covered cell);
    small = omega (arith, pow-suc 2 (free_in cell), pow_pos (free_in cell));
    end = refl;
    nodes = refl;
  }

  -- ---- a fork

  module _ (line : ℕ) (some : get_or table cell None ≡ Some line) where
    -- where a line is chosen, the cell varies
    fork_varies : Constant wants cell → ⊥
    fork_varies same = subst (λ (o : Option ℕ). IfSome o (λ _. ⊥)) some (subst (λ (o : Option ℕ). IfSome o (λ _. ⊥)) (sym (chosen.no_line cell low same)) tt)

    line_is : line_at table cell ≡ line
    line_is = ap (λ (o : Option ℕ). unwrap_or o 6) some

    -- the fork is written when both parts are
    pub fork_written : (place off end on-cell off-cell : ℕ) (nodes mid last : List Node)
        → Free cell line × (on-cell ≡ on_cell cell line) × (off-cell ≡ off_cell cell line)
        → Written wants (line_at table) on-cell (place + 1) nodes mid off → Written wants (line_at table) off-cell off mid last end
        → Written wants (line_at table) cell place nodes (set last place (node.Fork line (place + 1) off)) end
    fork_written place off end on-cell off-cell nodes mid last (free, on-is, off-is) on off_part = record {
      tree = fork line on.tree off_part.tree;
      best = (
        fork_varies,
        line_is,
        subst (λ (n : ℕ). BestTree wants (line_at table) n on.tree) on-is on.best,
        subst (λ (n : ℕ). BestTree wants (line_at table) n off_part.tree) off-is off_part.best,
      );
      small = let h = halves cell line on-cell off-cell low (free, on-is, off-is) in omega (arith, on.small, off_part.small, h.on-half, h.off-half);
      end = omega (arith, off_part.end, on.end);
      nodes =
          ap (λ (l : List Node). set l place (node.Fork line (place + 1) off)) off_part.nodes
          ∙ ap (λ (l : List Node). set (overwrite l off (nodes_from off off_part.tree)) place (node.Fork line (place + 1) off)) on.nodes
          ∙ fork_nodes nodes place (place + 1) line off on.tree off_part.tree refl on.end;
    }
