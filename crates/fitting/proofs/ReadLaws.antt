-- What is read off the nodes where fitted trees stand: the trees themselves, which can be walked and give the pruned sets.
use Rattle.std.proofs.Common.{◌≡◌, ℕ, zero, suc, ◌<◌, Bool, true, ◌&&◌, ltb, List, ◌∷◌, ◌++◌, length, get_or, take, drop, sym, refl, ap, ◌∙◌, subst, ap₂, subst₂, le_of_suc-le-suc, not-suc-le-zero, arith}
use Rattle.std.proofs.lemmas.List.{ext_get_or, take_at, take-append-drop}
use Rattle.std.proofs.lemmas.Bool.{lt-ltb, ltb-true, and_parts}
use Rattle.rules.specs.declared.Node.{Node}
use Rattle.rules.specs.declared.Node.TheVariants as node
use Rattle.rules.specs.automata.Rules.{Rule, WellFormed}
use Rattle.rules.specs.trees.Trees.{Tree, leaf, fork, gives, PollsOnce}
use Rattle.rules.specs.trees.Layouts.{layout, top_of, Stands}
use Rattle.rules.specs.trees.Costs.{Price}
use Rattle.rules.specs.watch.Holding.{tree_of}
use Rattle.rules.specs.watch.Promises.{FittedAll}
use Rattle.rules.proofs.automata.PruningLaws.{pruned_one}
use Rattle.rules.proofs.trees.LayoutLaws.{layout_stands, stands_more}
use Rattle.rules.proofs.trees.MeanCost.{Depth, depth_of, free_few}
use Rattle.rules.proofs.watch.PromiseOne.{fitted_all_one}
use Rattle.pruning.specs.Computed.{pruned_set}
use Rattle.pruning.proofs.SafeLaws.{pruned_right}
use Rattle.fitting.specs.declared.fit.Fitting.{Fitting}
use Rattle.fitting.specs.Fits.{DraftFitted, told_costs, told_tops}
use Rattle.fitting.specs.Reading.{tree_from, tree_at, tabled, read_trees, sound_node, sound_at, Walkable, GivesPruned}

-- ---- one tree

pub reads_tree : (nodes : List Node) (t : Tree) (u place : ℕ) → Stands nodes place t → Depth u t → tree_at (suc u) nodes place ≡ t
unfolding tree_at
reads_tree nodes (leaf set) u place (l, e) d = ap (tree_from (tree_at u nodes)) e
reads_tree nodes (fork line on off) zero place st d = absurd d
reads_tree nodes (fork line on off) (suc u) place (l, (a, (b, e, x, y))) d =
    ap (tree_from (tree_at (suc u) nodes)) e ∙ ap₂ (λ (s t : Tree). fork line s t) (reads_tree nodes on u a x d.0) (reads_tree nodes off u b y d.1)

both : (p q : Bool) → p ≡ true → q ≡ true → (p && q) ≡ true
both p q e f = ap₂ (λ (a b : Bool). a && b) e f

pub sound_tree : (nodes : List Node) (t : Tree) (above u place : ℕ) → Stands nodes place t → Depth u t → PollsOnce above t → sound_at (suc u) nodes place ≡ true
unfolding sound_at
sound_tree nodes (leaf set) above u place (l, e) d once = both _ _ (lt-ltb place (length nodes) l) (ap (sound_node (sound_at u nodes)) e)
sound_tree nodes (fork line on off) above zero place st d once = absurd d
sound_tree nodes (fork line on off) above (suc u) place (l, (a, (b, e, x, y))) d once =
    both _ _ (lt-ltb place (length nodes) l)
    (ap (sound_node (sound_at (suc u) nodes)) e
    ∙ both _ _ (lt-ltb line 6 once.0) (both _ _ (sound_tree nodes on _ u a x d.0 once.2) (sound_tree nodes off _ u b y d.1 once.3)))

-- a tree that can be walked stands where it is read
pub sound_stands : (n : ℕ) (nodes : List Node) (place : ℕ) → sound_at n nodes place ≡ true → Stands nodes place (tree_at n nodes place)
unfolding sound_at tree_at
sound_stands zero nodes place h = absurd (let z : ◌≡◌ {A = ℕ} 0 1 = cc in let no_way : ⊥ = omega arith in no_way)
sound_stands (suc n) nodes place h =
    let parts = and_parts (ltb place (length nodes)) (sound_node (sound_at n nodes) (get_or nodes place (node.Leaf 0))) h in
    go (λ k. sound_stands n nodes k) (ltb-true place (length nodes) parts.0) (get_or nodes place (node.Leaf 0)) refl parts.1
  where
    go : ((k : ℕ) → sound_at n nodes k ≡ true → Stands nodes k (tree_at n nodes k)) → place < length nodes → (x : Node) → get_or nodes place (node.Leaf 0) ≡ x → sound_node (sound_at n nodes) x ≡ true
        → Stands nodes place (tree_from (tree_at n nodes) x)
    go ih l (node.Fork line on off) e s =
        let below = (and_parts (ltb line 6) (sound_at n nodes on && sound_at n nodes off) s).1 in
        let both-sound = and_parts (sound_at n nodes on) (sound_at n nodes off) below in
        (l, (on, (off, e, ih on both-sound.0, ih off both-sound.1)))
    go ih l (node.Leaf set) e s = (l, e)

-- ---- tables

pub length-tabled : {A : Type 0} (n : ℕ) (f : ℕ → A) → length (tabled n f) ≡ n
unfolding tabled
length-tabled zero f = refl
length-tabled (suc n) f = ap suc (length-tabled n (λ k. f (suc k)))

pub get_or-tabled : {A : Type 0} (n : ℕ) (f : ℕ → A) (k : ℕ) (d : A) → k < n → get_or (tabled n f) k d ≡ f k
unfolding tabled
get_or-tabled zero f k d l = absurd (not-suc-le-zero l)
get_or-tabled (suc n) f zero d l = refl
get_or-tabled (suc n) f (suc k) d l = get_or-tabled n (λ k. f (suc k)) k d (le_of_suc-le-suc l)

pub tabled_same : {A : Type 0} (n : ℕ) (f g : ℕ → A) → ((k : ℕ) → k < n → f k ≡ g k) → tabled n f ≡ tabled n g
unfolding tabled
tabled_same zero f g h = refl
tabled_same (suc n) f g h = ap₂ (λ (x : _) (xs : List _). x ∷ xs) (h 0 (omega arith)) (tabled_same n (λ k. f (suc k)) (λ k. g (suc k)) (λ k l. h (suc k) (omega arith)))

-- ---- the trees of a fitted rule

module _ (price : Price) (rule : Rule) (before after : List Node) (told : Fitting) (fit : DraftFitted price rule before after told) where
  once : (q : ℕ) → q < length rule.states → PollsOnce 0 (tree_of fit.trees q)
  once q l = (fit.fitted.fitted q l).polls_once

  deep : (q : ℕ) → q < length rule.states → Depth 6 (tree_of fit.trees q)
  deep q l = depth_of (tree_of fit.trees q) 6 0 (once q l) (free_few 6 0)

  tree_read : (q : ℕ) → q < length rule.states → tree_at 7 after (get_or (told_tops told) q 0) ≡ tree_of fit.trees q
  tree_read q l = reads_tree after (tree_of fit.trees q) 6 (get_or (told_tops told) q 0) (fit.stands q l) (deep q l)

  pub fit_walkable : Walkable rule after (told_tops told)
  fit_walkable q l = sound_tree after (tree_of fit.trees q) 0 6 (get_or (told_tops told) q 0) (fit.stands q l) (deep q l) (once q l)

  pub fit_gives : WellFormed rule → GivesPruned rule after (told_tops told)
  fit_gives well q l = tabled_same 64 (gives (tree_at 7 after (get_or (told_tops told) q 0))) (pruned_set rule q)
      (λ e le.
      ap (λ (t : Tree). gives t e) (tree_read q l)
      ∙ pruned_one rule q e (gives (tree_of fit.trees q) e) (pruned_set rule q e) ((fit.fitted.fitted q l).serves e le) (pruned_right rule well q e))

  trees_read : read_trees rule after (told_tops told) ≡ fit.trees
  unfolding read_trees
  trees_read = ext_get_or (leaf 0) (tabled (length rule.states) (λ q. tree_at 7 after (get_or (told_tops told) q 0))) fit.trees
      (length-tabled (length rule.states) (λ q. tree_at 7 after (get_or (told_tops told) q 0)) ∙ sym fit.fitted.a_tree_each)
      (λ q l.
      let low : q < length rule.states = omega (arith, l, length-tabled (length rule.states) (λ q. tree_at 7 after (get_or (told_tops told) q 0))) in
      get_or-tabled (length rule.states) (λ q. tree_at 7 after (get_or (told_tops told) q 0)) q (leaf 0) low ∙ tree_read q low)

  pub read_fitted : FittedAll price rule (read_trees rule after (told_tops told)) (told_costs told)
  read_fitted = subst (λ (ts : List Tree). FittedAll price rule ts (told_costs told)) (sym trees_read) fit.fitted

  pub read_stands : (q : ℕ) → q < length rule.states → Stands after (get_or (told_tops told) q 0) (tree_of (read_trees rule after (told_tops told)) q)
  read_stands q l = subst (λ (ts : List Tree). Stands after (get_or (told_tops told) q 0) (tree_of ts q)) (sym trees_read) (fit.stands q l)

  pub read_tops : (q : ℕ) → q < length rule.states → get_or (told_tops told) q 0 ≡ top_of (read_trees rule after (told_tops told)) q
  read_tops q l = fit.tops_are q l ∙ ap (λ (ts : List Tree). top_of ts q) (sym trees_read)

  -- ---- the front of the nodes

  pub front_is : take told.behind after ≡ layout fit.trees
  front_is = ap (take told.behind) fit.nodes ∙ take_at (layout fit.trees) (drop told.behind before) told.behind (sym fit.behind_is)

  -- nodes that start with it have the same front
  pub front_starts : (nodes rest : List Node) → nodes ≡ take told.behind after ++ rest → take told.behind after ≡ take told.behind nodes
  front_starts nodes rest starts = sym (ap (take told.behind) starts ∙ take_at (take told.behind after) rest told.behind (ap length front_is ∙ sym fit.behind_is))

  -- nodes with the same front are as fitting leaves them
  module _ (nodes : List Node) (same : take told.behind after ≡ take told.behind nodes) where
    laid_out : nodes ≡ layout fit.trees ++ drop told.behind nodes
    laid_out = sym (take-append-drop told.behind nodes) ∙ ap (λ (l : List Node). l ++ drop told.behind nodes) (sym same ∙ front_is)

    standing : (q : ℕ) → q < length rule.states → Stands nodes (get_or (told_tops told) q 0) (tree_of fit.trees q)
    standing q l = subst₂ (λ (ns : List Node) (p : ℕ). Stands ns p (tree_of fit.trees q)) (sym laid_out) (sym (fit.tops_are q l))
        (stands_more (layout fit.trees) (drop told.behind nodes) (tree_of fit.trees q) (top_of fit.trees q)
        (layout_stands fit.trees q (omega (arith, l, fit.fitted.a_tree_each))))

    pub same_fitted : DraftFitted price rule nodes nodes told
    same_fitted = record {
      trees = fit.trees;
      counted = fit.counted;
      fitted = fit.fitted;
      implements = fit.implements;
      kinds = fit.kinds;
      behind_is = fit.behind_is;
      within = fit.within;
      nodes = laid_out;
      tops_are = fit.tops_are;
      stands = standing;
      past = fit.past;
    }

-- nodes that start with what fitting writes are as it leaves them
pub starts_fitted : (price : Price) (rule : Rule) (before after nodes rest : List Node) (told : Fitting) → DraftFitted price rule before after told → nodes ≡ take told.behind after ++ rest
    → DraftFitted price rule nodes nodes told
starts_fitted price rule before after nodes rest told fit starts = same_fitted price rule before after told fit nodes (front_starts price rule before after told fit nodes rest starts)

-- nodes that are as fitting leaves them start with what it writes
pub fronts_agree : (price : Price) (rule : Rule) (before after nodes : List Node) (told told' : Fitting) → DraftFitted price rule before after told → DraftFitted price rule nodes nodes told'
    → nodes ≡ take told.behind after ++ drop told.behind nodes
fronts_agree price rule before after nodes told told' fit fit' =
    let same : fit.trees ≡ fit'.trees = (fitted_all_one price rule fit.trees fit'.trees (told_costs told) (told_costs told') fit.fitted fit'.fitted).0 in
    let end : told'.behind ≡ told.behind = fit'.behind_is ∙ ap (λ (ts : List Tree). length (layout ts)) (sym same) ∙ sym fit.behind_is in
    let front : take told.behind nodes ≡ take told.behind after =
    ap (λ (n : ℕ). take n nodes) (sym end) ∙ front_is price rule nodes nodes told' fit' ∙ ap layout (sym same) ∙ sym (front_is price rule before after told fit) in
    sym (take-append-drop told.behind nodes) ∙ ap (λ (l : List Node). l ++ drop told.behind nodes) front
