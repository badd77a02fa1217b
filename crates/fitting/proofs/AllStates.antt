-- The trees of a draft's states, one behind the other: what stands after each turn, and what that is in the end.
use Rattle.std.proofs.Common.{◌≡◌, ℕ, zero, suc, ◌+◌, ◌-◌, ◌*◌, ◌<◌, ◌≤◌, ◌≢◌, ◌⊎◌, List, [], ◌∷◌, ◌++◌, length, get_or, take, drop, set, replicate, sym, refl, ap, ◌∙◌, subst, subst₂, inl, inr, le_of_suc-le-suc, not-suc-le-zero, add-zero, zero-add, arith, below_more}
use Rattle.std.proofs.Math.ListN.{get_or-map}
use Rattle.std.proofs.lemmas.List.{length-append, length-map, length-replicate, take_at, get_or-replicate, get_or_past, get_or-set_same, get_or-set_other, get_or_append_left, get_or-append_right, get_or_push, get_or-drop}
use Rattle.std.proofs.lemmas.Bool.{cases_lt}
use Rattle.rules.specs.declared.Node.{Node}
use Rattle.rules.specs.automata.Rules.{Rule, WellFormed}
use Rattle.rules.specs.automata.Pruning.{Kinds, Wants}
use Rattle.rules.specs.trees.Trees.{Tree, leaf}
use Rattle.rules.specs.trees.Layouts.{size_of, nodes_from, layout_from, layout, top_from, top_of, Stands}
use Rattle.rules.specs.trees.Costs.{Price, Lawful}
use Rattle.rules.specs.trees.Bests.{Fitted}
use Rattle.rules.specs.watch.Holding.{tree_of}
use Rattle.rules.specs.watch.Promises.{FittedAll}
use Rattle.rules.proofs.automata.PruningLaws.{serves_implements}
use Rattle.rules.proofs.trees.LayoutLaws.{nodes_length, layout_stands, stands_more}
use Rattle.pruning.specs.Computed.{live_states, safe_states, lowest_safe}
use Rattle.pruning.proofs.LiveLaws.{live_small, live_right}
use Rattle.pruning.proofs.SafeLaws.{safe_right, release_some, release_none}
use Rattle.fitting.specs.States.{overwrite, StateFitted}
use Rattle.fitting.specs.declared.fit.FittedTree.{FittedTree}
use Rattle.fitting.specs.declared.fit.Fitting.{Fitting}
use Rattle.fitting.specs.Fits.{DraftFitted, told_costs, told_tops, no_tree}
use Rattle.fitting.proofs.StateLaws.{rule_fitted}
use Rattle.fitting.proofs.Layouts.{layout_more, layout_end, layout_front}

-- ---- top places

-- one tree more leaves the tops before it
top_from_more : (trees : List Tree) (t : Tree) (place k : ℕ) → k < length trees → top_from place (trees ++ t ∷ []) k ≡ top_from place trees k
top_from_more [] t place k l = absurd (not-suc-le-zero l)
top_from_more (x ∷ trees) t place zero l = refl
top_from_more (x ∷ trees) t place (suc k) l = top_from_more trees t (place + size_of x) k (le_of_suc-le-suc l)

-- its own top is behind them
top_from_end : (trees : List Tree) (t : Tree) (place : ℕ) → top_from place (trees ++ t ∷ []) (length trees) ≡ place + length (layout_from place trees)
top_from_end [] t place = sym (add-zero place)
top_from_end (x ∷ trees) t place =
    let more : place + size_of x + length (layout_from (place + size_of x) trees) ≡ place + length (nodes_from place x ++ layout_from (place + size_of x) trees)
    = omega (arith, length-append (nodes_from place x) (layout_from (place + size_of x) trees), nodes_length x place) in
    top_from_end trees t (place + size_of x) ∙ more

top_end : (trees : List Tree) (t : Tree) (q : ℕ) → length trees ≡ q → top_of (trees ++ t ∷ []) q ≡ length (layout trees)
top_end trees t q e = ap (top_from 0 (trees ++ t ∷ [])) (sym e) ∙ top_from_end trees t 0 ∙ zero-add (length (layout trees))

-- ---- one state

-- a state's fitted tree is written from a place on, and all other nodes are as they were; `behind` is the place behind it
pub record NextFitted (price : Price) (rule : Rule) (q place : ℕ) (before after : List Node) (behind cost : ℕ) : Type 0 where
  pub tree : Tree
  pub fitted : Fitted price rule q tree cost
  pub few : size_of tree ≤ 127
  pub end : behind ≡ place + size_of tree
  pub nodes : after ≡ overwrite before place (nodes_from place tree)

pub next_fitted : (price : Price) (rule : Rule) (q : ℕ) (wants : ℕ → ℕ) (place : ℕ) (before after : List Node) (behind cost : ℕ) → Lawful price → WellFormed rule → Wants rule q wants
    → StateFitted price rule.lines wants place before after behind cost → NextFitted price rule q place before after behind cost
next_fitted price rule q wants place before after behind cost law well wanted state = record {
  tree = state.tree;
  fitted = rule_fitted price rule q wants place before after behind cost law well wanted state;
  few = state.few;
  end = state.end;
  nodes = state.nodes;
}

-- ---- one state more

-- the states below q are fitted, and their trees are laid out from place 0 on
pub record Begun (price : Price) (rule : Rule) (before after : List Node) (told : List FittedTree) (behind q : ℕ) : Type 0 where
  pub trees : List Tree
  pub many : length trees ≡ q
  pub nodes : after ≡ overwrite before 0 (layout trees)
  pub end : behind ≡ length (layout trees)
  pub few : behind ≤ 127 * q
  pub fitted : (k : ℕ) → k < q → Fitted price rule k (tree_of trees k) (get_or told k no_tree).cost
  pub placed : (k : ℕ) → k < q → (get_or told k no_tree).top ≡ top_of trees k

pub begun_none : (price : Price) (rule : Rule) (nodes : List Node) (told : List FittedTree) → Begun price rule nodes nodes told 0 0
begun_none price rule nodes told = record {
  trees = [];
  many = refl;
  nodes = refl;
  end = refl;
  few = omega arith;
  fitted = λ k l. absurd (not-suc-le-zero l);
  placed = λ k l. absurd (not-suc-le-zero l);
}

module _ (price : Price) (rule : Rule) (before after : List Node) (told : List FittedTree) (behind q : ℕ) (begun : Begun price rule before after told behind q) (low : q < length told)
    (last : List Node) (end cost : ℕ) (next : NextFitted price rule q behind after last end cost) where
  all : List Tree
  all = begun.trees ++ next.tree ∷ []

  written : List FittedTree
  written = set told q (record { cost = cost; top = behind })

  -- what is told of the other states stays
  kept : (k : ℕ) → k < q → get_or told k no_tree ≡ get_or written k no_tree
  unfolding written
  kept k l = let ne : k ≢ q = omega arith in sym (get_or-set_other told q k (record { cost = cost; top = behind }) no_tree ne)

  added : record { cost = cost; top = behind } ≡ get_or written q no_tree
  unfolding written
  added = sym (get_or-set_same told q (record { cost = cost; top = behind }) no_tree low)

  fitted_more : (k : ℕ) → k < q + 1 → Fitted price rule k (tree_of all k) (get_or written k no_tree).cost
  unfolding all
  fitted_more = below_more (λ k. Fitted price rule k (tree_of all k) (get_or written k no_tree).cost) q
      (λ k l.
      subst₂ (λ (t : Tree) (told : FittedTree). Fitted price rule k t told.cost) (sym (get_or_append_left begun.trees (next.tree ∷ []) (leaf 0) k (omega (arith, begun.many, l))))
      (kept k l) (begun.fitted k l))
      (subst₂ (λ (t : Tree) (told : FittedTree). Fitted price rule q t told.cost) (sym (get_or_push begun.trees next.tree (leaf 0) q begun.many)) added next.fitted)

  placed_more : (k : ℕ) → k < q + 1 → (get_or written k no_tree).top ≡ top_of all k
  unfolding all
  placed_more = below_more (λ k. (get_or written k no_tree).top ≡ top_of all k) q
      (λ k l.
      ap (λ (told : FittedTree). told.top) (sym (kept k l)) ∙ begun.placed k l ∙ sym (top_from_more begun.trees next.tree 0 k (omega (arith, begun.many, l))))
      (ap (λ (told : FittedTree). told.top) (sym added) ∙ begun.end ∙ sym (top_end begun.trees next.tree q begun.many))

  pub begun_more : Begun price rule before last (set told q (record { cost = cost; top = behind })) end (q + 1)
  unfolding all written
  begun_more = record {
    trees = all;
    many = omega (arith, length-append begun.trees (next.tree ∷ []), begun.many);
    nodes =
        next.nodes
        ∙ ap (λ (l : List Node). overwrite l behind (nodes_from behind next.tree)) begun.nodes
        ∙ layout_more before begun.trees next.tree behind begun.end;
    end = next.end ∙ layout_end begun.trees next.tree behind begun.end;
    few = omega (arith, begun.few, next.few, next.end);
    fitted = fitted_more;
    placed = placed_more;
  }

-- ---- all states

-- the live, the safe and the release states of a rule
pub rule_kinds : (rule : Rule) → WellFormed rule → Kinds rule (live_states rule) (safe_states rule) (lowest_safe rule)
rule_kinds rule well = record {
  small = live_small rule well;
  live_is = live_right rule well;
  safe_is = safe_right rule well;
  release_is = λ q s. release_some rule well (λ e. release_none rule well e q s);
}

-- past the end of a list and what stood behind it there is nothing
pub none_past : (n k : ℕ) → get_or (replicate n no_tree) k no_tree ≡ no_tree
none_past n k = go (cases_lt k n)
  where
    go : (k < n) ⊎ (n ≤ k) → get_or (replicate n no_tree) k no_tree ≡ no_tree
    go (inl l) = get_or-replicate n k no_tree no_tree l
    go (inr h) = get_or_past (replicate n no_tree) k no_tree (omega (arith, length-replicate {A = FittedTree} n no_tree, h))

module _ (price : Price) (rule : Rule) (before after : List Node) (first : List FittedTree) (none : FittedTree) (behind n : ℕ) (well : WellFormed rule) (room : 4064 ≤ length before)
    (is : n ≡ length rule.states) (long : length first ≡ n) (zero : none ≡ no_tree) (begun : Begun price rule before after first behind n) where
  few : n ≤ 32
  few = omega (arith, is, well.few_states)

  -- a state is one of those fitted
  among : (q : ℕ) → q < length rule.states → q < n
  among q l = omega (arith, is, l)

  -- what is told, with nothing past the states
  told : Fitting
  told = record { trees = first ++ drop n (replicate 32 none); states = n; behind = behind }

  told_first : take n told.trees ≡ first
  unfolding told
  told_first = take_at first (drop n (replicate 32 none)) n long

  all_fitted : FittedAll price rule begun.trees (told_costs told)
  unfolding told
  all_fitted = record {
    a_tree_each = begun.many ∙ is;
    a_cost_each = length-map (take n told.trees) (λ t. t.cost) ∙ ap length told_first ∙ long ∙ is;
    fitted = λ q l. subst (Fitted price rule q (tree_of begun.trees q)) (ap (λ (t : FittedTree). t.cost) (ap (λ (ts : List FittedTree). get_or ts q no_tree) (sym told_first)) ∙ sym (get_or-map (λ t. t.cost) (take n told.trees) q no_tree)) (begun.fitted q (among q l));
  }

  tops_told : (q : ℕ) → q < length rule.states → get_or (told_tops told) q 0 ≡ top_of begun.trees q
  unfolding told
  tops_told q l =
      get_or-map (λ t. t.top) told.trees q no_tree
      ∙ ap (λ (t : FittedTree). t.top) (get_or_append_left first (drop n (replicate 32 none)) no_tree q (omega (arith, long, among q l)))
      ∙ begun.placed q (among q l)

  laid_out : after ≡ layout begun.trees ++ drop behind before
  laid_out =
      begun.nodes
      ∙ layout_front before begun.trees (omega (arith, begun.end, begun.few, few, room))
      ∙ ap (λ (k : ℕ). layout begun.trees ++ drop k before) (sym begun.end)

  standing : (q : ℕ) → q < length rule.states → Stands after (get_or (told_tops told) q 0) (tree_of begun.trees q)
  standing q l = subst₂ (λ (ns : List Node) (p : ℕ). Stands ns p (tree_of begun.trees q)) (sym laid_out) (sym (tops_told q l))
      (stands_more (layout begun.trees) (drop behind before) (tree_of begun.trees q) (top_of begun.trees q) (layout_stands begun.trees q (omega (arith, among q l, begun.many))))

  past_none : (q : ℕ) → length rule.states ≤ q → get_or told.trees q no_tree ≡ no_tree
  unfolding told
  past_none q l =
      get_or-append_right first (drop n (replicate 32 none)) n q no_tree long (omega (arith, is, l))
      ∙ get_or-drop n (replicate 32 none) (q - n) no_tree
      ∙ ap (λ (t : FittedTree). get_or (replicate 32 t) (n + (q - n)) no_tree) zero
      ∙ none_past 32 (n + (q - n))

  pub all_begun : DraftFitted price rule before after (record { trees = first ++ drop n (replicate 32 none); states = n; behind = behind })
  unfolding told
  all_begun = record {
    trees = begun.trees;
    counted = is;
    fitted = all_fitted;
    implements = λ live safe release kinds q l. (serves_implements rule live safe release kinds q (tree_of begun.trees q)).0 (begun.fitted q (among q l)).serves;
    kinds = (live_states rule, (safe_states rule, (lowest_safe rule, rule_kinds rule well)));
    behind_is = begun.end;
    within = omega (arith, begun.few, few);
    nodes = laid_out;
    tops_are = tops_told;
    stands = standing;
    past = past_none;
  }
