-- Trees written one behind the other, from place 0, lie as a layout, and the rest of the list stays as it was.
use Rattle.std.proofs.Common.{◌≡◌, ℕ, ◌+◌, ◌≤◌, List, [], ◌∷◌, ◌++◌, length, drop, sym, ap, ◌∙◌, append_assoc, append-nil, add-zero, zero-add, arith}
use Rattle.std.proofs.lemmas.List.{length-append}
use Rattle.rules.specs.declared.Node.{Node}
use Rattle.rules.specs.trees.Trees.{Tree}
use Rattle.rules.specs.trees.Layouts.{size_of, nodes_from, layout_from, layout}
use Rattle.rules.proofs.trees.LayoutLaws.{nodes_length}
use Rattle.fitting.specs.States.{overwrite}
use Rattle.fitting.proofs.StateLaws.{overwrite_parts}
use Rattle.fitting.proofs.Writing.{overwrite-append}

-- one tree more
layout_from_more : (trees : List Tree) (t : Tree) (place end : ℕ) → end ≡ place + length (layout_from place trees) → layout_from place (trees ++ t ∷ []) ≡ layout_from place trees ++ nodes_from end t
layout_from_more [] t place end e = append-nil (nodes_from place t) ∙ ap (λ (n : ℕ). nodes_from n t) (sym (add-zero place) ∙ sym e)
layout_from_more (first ∷ trees) t place end e =
    ap (λ (l : List Node). nodes_from place first ++ l) (layout_from_more trees t (place + size_of first) end more)
    ∙ sym (append_assoc (nodes_from place first) (layout_from (place + size_of first) trees) (nodes_from end t))
  where
    more : end ≡ place + size_of first + length (layout_from (place + size_of first) trees)
    more = omega (arith, e, length-append (nodes_from place first) (layout_from (place + size_of first) trees), nodes_length first place)

-- the next tree is written behind those before it
pub layout_more : (nodes : List Node) (trees : List Tree) (t : Tree) (end : ℕ) → end ≡ length (layout trees)
    → overwrite (overwrite nodes 0 (layout trees)) end (nodes_from end t) ≡ overwrite nodes 0 (layout (trees ++ t ∷ []))
layout_more nodes trees t end e =
    sym (overwrite-append nodes 0 (layout trees) (nodes_from end t) end (e ∙ sym (zero-add (length (layout trees)))))
    ∙ ap (overwrite nodes 0) (sym (layout_from_more trees t 0 end (e ∙ sym (zero-add (length (layout trees))))))

-- its end is the end of all
pub layout_end : (trees : List Tree) (t : Tree) (end : ℕ) → end ≡ length (layout trees) → end + size_of t ≡ length (layout (trees ++ t ∷ []))
layout_end trees t end e =
    omega (arith, e, nodes_length t end, length-append (layout trees) (nodes_from end t), ap length (layout_from_more trees t 0 end (e ∙ sym (zero-add (length (layout trees))))))

-- the layout stands in front, and the rest is as it was
pub layout_front : (nodes : List Node) (trees : List Tree) → length (layout trees) ≤ length nodes → overwrite nodes 0 (layout trees) ≡ layout trees ++ drop (length (layout trees)) nodes
layout_front nodes trees room =
    overwrite_parts nodes 0 (layout trees) (omega arith) ∙ ap (λ (n : ℕ). layout trees ++ drop n nodes) (zero-add (length (layout trees)))
