-- Trees laid out one after the other stand at their tops, fit in 127 nodes each, and are determined by the nodes.
use Rattle.std.proofs.Common.{◌≡◌, ℕ, zero, suc, ◌+◌, ◌^◌, ◌<◌, ◌≤◌, List, [], ◌∷◌, ◌++◌, length, get_or, sym, refl, ap, ◌∙◌, subst, ap₂, append_assoc, le_of_suc-le-suc, not-suc-le-zero, pow-suc, arith}
use Rattle.std.proofs.lemmas.List.{get_or_at, length-append}
use Rattle.rules.specs.declared.Node.{Node}
use Rattle.rules.specs.declared.Node.TheVariants as node
use Rattle.rules.specs.trees.Trees.{Tree, leaf, fork, PollsOnce}
use Rattle.rules.specs.trees.Layouts.{size_of, nodes_from, layout_from, layout, top_from, top_of, Stands}
use Rattle.rules.specs.watch.Holding.{tree_of}
use Rattle.rules.proofs.trees.MeanCost.{Depth, depth_of, free_few}

-- ---- how many nodes

pub nodes_length : (t : Tree) (place : ℕ) → length (nodes_from place t) ≡ size_of t
nodes_length (leaf set) place = refl
nodes_length (fork line on off) place =
    ap suc (length-append (nodes_from (suc place) on) (nodes_from (suc place + size_of on) off) ∙ ap₂ (λ (x y : ℕ). x + y) (nodes_length on (suc place)) (nodes_length off (suc place + size_of on)))

size_depth : (t : Tree) (u : ℕ) → Depth u t → size_of t < 2 ^ suc u
size_depth (leaf set) u d = omega (arith, Rattle.std.proofs.lemmas.Nat.pow_pos u, pow-suc 2 u)
size_depth (fork line on off) zero d = absurd d
size_depth (fork line on off) (suc u) d = omega (arith, size_depth on u d.0, size_depth off u d.1, pow-suc 2 (suc u))

-- a tree that polls no line twice takes at most 127 nodes
pub size_small : (t : Tree) → PollsOnce 0 t → size_of t ≤ 127
size_small t once = le_of_suc-le-suc (size_depth t 6 (depth_of t 6 0 once (free_few 6 0)))

-- ---- a tree stands where its nodes are

pub nodes_stand : (t : Tree) (front rest : List Node) (place : ℕ) → place ≡ length front → Stands (front ++ (nodes_from place t ++ rest)) place t
nodes_stand (leaf set) front rest place e = (
  omega (arith, length-append front (node.Leaf set ∷ rest), e),
  get_or_at front (node.Leaf set) rest (node.Leaf 0) place (sym e),
)
nodes_stand (fork line on off) front rest place e = (
  omega (arith, length-append front (nodes_from place (fork line on off) ++ rest), e),
  (
    suc place,
    (
      suc place + size_of on,
      here,
      on_stands (nodes_stand on (front ++ top ∷ []) (offs ++ rest) (suc place) one_more),
      off_stands (nodes_stand off ((front ++ top ∷ []) ++ ons) rest (suc place + size_of on) on_more),
    ),
  ),
)
  where
    top : Node
    top = node.Fork line (suc place) (suc place + size_of on)

    ons : List Node
    ons = nodes_from (suc place) on

    offs : List Node
    offs = nodes_from (suc place + size_of on) off

    here : get_or (front ++ (top ∷ (ons ++ offs) ++ rest)) place (node.Leaf 0) ≡ top
    here = get_or_at front top ((ons ++ offs) ++ rest) (node.Leaf 0) place (sym e)

    one_more : suc place ≡ length (front ++ top ∷ [])
    one_more = omega (arith, length-append front (top ∷ []), e)

    on_list : (front ++ top ∷ []) ++ (ons ++ (offs ++ rest)) ≡ front ++ (top ∷ (ons ++ offs) ++ rest)
    on_list = append_assoc front (top ∷ []) (ons ++ (offs ++ rest)) ∙ ap (λ (l : List Node). front ++ top ∷ l) (sym (append_assoc ons offs rest))

    on_stands : Stands ((front ++ top ∷ []) ++ (ons ++ (offs ++ rest))) (suc place) on → Stands (front ++ (top ∷ (ons ++ offs) ++ rest)) (suc place) on
    on_stands h = subst (λ (l : List Node). Stands l (suc place) on) on_list h

    on_more : suc place + size_of on ≡ length ((front ++ top ∷ []) ++ ons)
    on_more = omega (arith, length-append (front ++ top ∷ []) ons, one_more, nodes_length on (suc place))

    off_stands : Stands (((front ++ top ∷ []) ++ ons) ++ (offs ++ rest)) (suc place + size_of on) off → Stands (front ++ (top ∷ (ons ++ offs) ++ rest)) (suc place + size_of on) off
    off_stands h = subst (λ (l : List Node). Stands l (suc place + size_of on) off) (append_assoc (front ++ top ∷ []) ons (offs ++ rest) ∙ on_list) h

layout_from_stands : (trees : List Tree) (front : List Node) (place q : ℕ) → place ≡ length front → q < length trees
    → Stands (front ++ layout_from place trees) (top_from place trees q) (tree_of trees q)
layout_from_stands [] front place q e l = absurd (not-suc-le-zero l)
layout_from_stands (t ∷ trees) front place zero e l = nodes_stand t front (layout_from (place + size_of t) trees) place e
layout_from_stands (t ∷ trees) front place (suc q) e l =
    subst (λ (ns : List Node). Stands ns (top_from (place + size_of t) trees q) (tree_of trees q)) (append_assoc front (nodes_from place t) (layout_from (place + size_of t) trees))
    (layout_from_stands trees (front ++ nodes_from place t) (place + size_of t) q more (le_of_suc-le-suc l))
  where
    more : place + size_of t ≡ length (front ++ nodes_from place t)
    more = omega (arith, length-append front (nodes_from place t), nodes_length t place, e)

-- each tree stands at its top
pub layout_stands : (trees : List Tree) (q : ℕ) → q < length trees → Stands (layout trees) (top_of trees q) (tree_of trees q)
layout_stands trees q l = layout_from_stands trees [] 0 q refl l

kept : (nodes more : List Node) (place : ℕ) → place < length nodes → get_or (nodes ++ more) place (node.Leaf 0) ≡ get_or nodes place (node.Leaf 0)
kept [] more place l = absurd (not-suc-le-zero l)
kept (n ∷ nodes) more zero l = refl
kept (n ∷ nodes) more (suc place) l = kept nodes more place (le_of_suc-le-suc l)

-- nodes after the trees leave them standing
pub stands_more : (nodes more : List Node) (t : Tree) (place : ℕ) → Stands nodes place t → Stands (nodes ++ more) place t
stands_more nodes more (leaf set) place (l, e) = (omega (arith, length-append nodes more, l), kept nodes more place l ∙ e)
stands_more nodes more (fork line on off) place (l, (a, (b, e, x, y))) =
    (omega (arith, length-append nodes more, l), (a, (b, kept nodes more place l ∙ e, stands_more nodes more on a x, stands_more nodes more off b y)))

-- ---- the tree at a place is determined

abbrev IsFork : Node → ℕ → ℕ → ℕ → Type 0
IsFork (node.Fork l a b) line on off = (l ≡ line) × (a ≡ on) × (b ≡ off)
IsFork (node.Leaf s) line on off = ⊥

abbrev IsLeaf : Node → ℕ → Type 0
IsLeaf (node.Fork l a b) set = ⊥
IsLeaf (node.Leaf s) set = s ≡ set

is_fork : (n : Node) (line on off : ℕ) → n ≡ node.Fork line on off → IsFork n line on off
is_fork n line on off e = subst (λ (m : Node). IsFork m line on off) (sym e) (refl, refl, refl)

is_leaf : (n : Node) (set : ℕ) → n ≡ node.Leaf set → IsLeaf n set
is_leaf n set e = subst (λ (m : Node). IsLeaf m set) (sym e) refl

pub stands_one : (nodes : List Node) (t t' : Tree) (place : ℕ) → Stands nodes place t → Stands nodes place t' → t ≡ t'
stands_one nodes (leaf s) (leaf s') place (l, e) (l', e') = ap leaf (is_leaf (node.Leaf s) s' (sym e ∙ e'))
stands_one nodes (leaf s) (fork i on off) place (l, e) (l', (a, (b, e', x, y))) = absurd (is_fork (node.Leaf s) i a b (sym e ∙ e'))
stands_one nodes (fork i on off) (leaf s) place (l, (a, (b, e, x, y))) (l', e') = absurd (is_fork (node.Leaf s) i a b (sym e' ∙ e))
stands_one nodes (fork i on off) (fork i' on' off') place (l, (a, (b, e, x, y))) (l', (a', (b', e', x', y'))) =
    let (p, q, r) = is_fork (node.Fork i a b) i' a' b' (sym e ∙ e') in
    let ons = stands_one nodes on on' a x (subst (λ (n : ℕ). Stands nodes n on') (sym q) x') in
    let offs = stands_one nodes off off' b y (subst (λ (n : ℕ). Stands nodes n off') (sym r) y') in
    λ k. fork (p k) (ons k) (offs k)
