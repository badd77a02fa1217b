-- A watch's inputs determine its trees, its costs, its answers and the events that it leaves.
use Rattle.std.proofs.Common.{◌≡◌, ℕ, ◌<◌, List, [], length, get_or, sym, ap, ◌∙◌, subst, lit≤}
use Rattle.std.specs.Prelude.{Result}
use Rattle.std.specs.List.{AllByRecursion}
use Rattle.std.proofs.lemmas.List.{ext_get_or}
use Rattle.rules.specs.declared.Line.{Line}
use Rattle.rules.specs.declared.Call.{Call}
use Rattle.rules.specs.declared.Refusal.{Refusal}
use Rattle.rules.specs.declared.Answer.{Answer}
use Rattle.events.specs.Cells.{on_cell, off_cell}
use Rattle.rules.specs.automata.Rules.{Rule, Event}
use Rattle.rules.specs.trees.Trees.{Tree, leaf, fork}
use Rattle.rules.specs.trees.Costs.{Price, cost_of}
use Rattle.rules.specs.trees.Bests.{Constant, Bests, BestTree, IsBest, Fitted}
use Rattle.rules.specs.watch.Calls.{CallsAll}
use Rattle.rules.specs.watch.Promises.{FittedAll, Promise}
use Rattle.rules.proofs.automata.PruningLaws.{pruned_one}
use Rattle.rules.proofs.trees.BestOne.{trees_one}
use Rattle.rules.proofs.watch.CallsOne.{calls_all_one}

-- ---- the tables and trees see only what is wanted at the 64 events

module _ (wants wants' : ℕ → ℕ) (same : (e : ℕ) → e < 64 → wants e ≡ wants' e) where
  constant_same : (cell : ℕ) → Constant wants cell → Constant wants' cell
  constant_same cell c a b la lb ca cb = sym (same a la) ∙ (c a b la lb ca cb ∙ same b lb)

  constant_back : (cell : ℕ) → Constant wants' cell → Constant wants cell
  constant_back cell c a b la lb ca cb = same a la ∙ (c a b la lb ca cb ∙ sym (same b lb))

  pub bests_same : (price : Price) (lines : List Line) (best line : ℕ → ℕ) → Bests price lines wants best line → Bests price lines wants' best line
  bests_same price lines best line bests = record {
    constant = λ cell l c. bests.constant cell l (constant_back cell c);
    forked = λ cell l varies. bests.forked cell l (λ c. varies (constant_same cell c));
  }

  pub best_tree_same : (line : ℕ → ℕ) (t : Tree) (cell : ℕ) → BestTree wants line cell t → BestTree wants' line cell t
  best_tree_same line (leaf set) cell h = λ e l c. sym (same e l) ∙ h e l c
  best_tree_same line (fork i on off) cell (varies, p, h-on, h-off) =
      ((λ c. varies (constant_back cell c)), p, best_tree_same line on (on_cell cell i) h-on, best_tree_same line off (off_cell cell i) h-off)

-- ---- a state has one best tree, and one cost

pub is_best_one : (price : Price) (rule : Rule) (q : ℕ) (t t' : Tree) → IsBest price rule q t → IsBest price rule q t' → t ≡ t'
is_best_one price rule q t t' a b = trees_one price rule.lines a.wants a.best a.line b.best b.line a.bests
    (bests_same b.wants a.wants same price rule.lines b.best b.line b.bests) t t' 0 (lit≤ tt) a.tree (best_tree_same b.wants a.wants same b.line t' 0 b.tree)
  where
    same : (e : ℕ) → e < 64 → b.wants e ≡ a.wants e
    same e l = pruned_one rule q e (b.wants e) (a.wants e) (b.wanted e l) (a.wanted e l)

pub fitted_one : (price : Price) (rule : Rule) (q : ℕ) (t t' : Tree) (c c' : ℕ) → Fitted price rule q t c → Fitted price rule q t' c' → (t ≡ t') × (c ≡ c')
fitted_one price rule q t t' c c' a b =
    let trees = is_best_one price rule q t t' a.is_best b.is_best in
    (trees, a.costs ∙ (ap (cost_of price rule.lines 6) trees ∙ sym b.costs))

pub fitted_all_one : (price : Price) (rule : Rule) (trees trees' : List Tree) (costs costs' : List ℕ)
    → FittedAll price rule trees costs → FittedAll price rule trees' costs' → (trees ≡ trees') × (costs ≡ costs')
fitted_all_one price rule trees trees' costs costs' a b = (
  ext_get_or (leaf 0) trees trees' (a.a_tree_each ∙ sym b.a_tree_each) (λ q l. (each q (subst (λ (n : ℕ). q < n) a.a_tree_each l)).0),
  ext_get_or 0 costs costs' (a.a_cost_each ∙ sym b.a_cost_each) (λ q l. (each q (subst (λ (n : ℕ). q < n) a.a_cost_each l)).1),
)
  where
    each : (q : ℕ) → q < length rule.states → (get_or trees q (leaf 0) ≡ get_or trees' q (leaf 0)) × (get_or costs q 0 ≡ get_or costs' q 0)
    each q l = fitted_one price rule q (get_or trees q (leaf 0)) (get_or trees' q (leaf 0)) (get_or costs q 0) (get_or costs' q 0) (a.fitted q l) (b.fitted q l)

-- ---- the promise has one outcome

pub promise_one : (price : Price) (rule : Rule) (trees trees' : List Tree) (costs costs' : List ℕ) (calls : List Call) (coming : List ℕ) (as₁ as₂ : List (Result Answer Refusal)) (left left' : List ℕ)
    → AllByRecursion (Event rule) coming → Promise price rule trees costs calls coming as₁ left → Promise price rule trees' costs' calls coming as₂ left'
    → (trees ≡ trees') × (costs ≡ costs') × (as₁ ≡ as₂) × (left ≡ left')
promise_one price rule trees trees' costs costs' calls coming as₁ as₂ left left' ok a b =
    let (same, same-costs) = fitted_all_one price rule trees trees' costs costs' a.fit b.fit in
    let other = subst (λ (l : List Tree). CallsAll rule l calls [] coming as₂ b.taken left') (sym same) b.answered in
    let (p, q, r) = calls_all_one rule trees calls [] coming as₁ as₂ a.taken b.taken left left' tt ok a.answered other in
    (same, same-costs, p, r)
