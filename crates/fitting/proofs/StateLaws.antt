-- What holds of a state's best tree once it is written, and what that is for a state of a rule.
use Rattle.std.proofs.Common.{◌≡◌, ℕ, ◌+◌, ◌%◌, ◌^◌, ◌<◌, ◌≤◌, List, [], ◌∷◌, ◌++◌, length, take, drop, set, sym, refl, ap, ◌∙◌, subst, append_assoc, add-zero, arith, lit≤}
use native.Mathlib.Nat.{zero-div}
use Rattle.std.proofs.lemmas.List.{length-set, length-take-le, take-append-drop, take_more_set, drop-set-lt}
use Rattle.events.proofs.SetLaws.{∈_none}
use Rattle.events.proofs.CellLaws.{covers_all, free_whole}
use Rattle.rules.specs.declared.Line.{Line}
use Rattle.rules.specs.declared.Node.{Node}
use Rattle.rules.specs.automata.Rules.{Rule, WellFormed, LineInRange, line_of}
use Rattle.rules.specs.automata.Pruning.{Wants}
use Rattle.rules.specs.trees.Trees.{Tree, PollsOnce}
use Rattle.rules.specs.trees.Layouts.{size_of, nodes_from, Stands}
use Rattle.rules.specs.trees.Costs.{Price, Lawful, expected, cost_of, mean_cost, IsTrillionfold}
use Rattle.rules.specs.trees.Bests.{Bests, BestTree, Fitted}
use Rattle.rules.proofs.trees.BestLaws.{Unpolled, lower, best_right, best_cost, best_polls_once, best_fitted}
use Rattle.rules.proofs.trees.LayoutLaws.{nodes_length, nodes_stand, size_small}
use Rattle.rules.proofs.trees.MeanCost.{mean_trillionfold}
use Rattle.fitting.specs.States.{overwrite, Written, GivesWanted, StateFitted}

-- ---- the nodes written, between those before and those behind

pub overwrite_parts : {A : Type 0} (xs : List A) (i : ℕ) (ys : List A) → i + length ys ≤ length xs → overwrite xs i ys ≡ take i xs ++ (ys ++ drop (i + length ys) xs)
overwrite_parts xs i [] h = sym (take-append-drop i xs) ∙ ap (λ (n : ℕ). take i xs ++ drop n xs) (sym (add-zero i))
overwrite_parts xs i (y ∷ ys) h =
    overwrite_parts (set xs i y) (i + 1) ys (omega (arith, h, length-set xs i y))
    ∙ ap (λ (l : List _). l ++ (ys ++ drop (i + 1 + length ys) (set xs i y))) (take_more_set xs i y (omega (arith, h)))
    ∙ append_assoc (take i xs) (y ∷ []) (ys ++ drop (i + 1 + length ys) (set xs i y))
    ∙ ap (λ (l : List _). take i xs ++ y ∷ (ys ++ l)) (drop-set-lt (i + 1 + length ys) xs i y (omega arith))
    ∙ ap (λ (n : ℕ). take i xs ++ y ∷ (ys ++ drop n xs)) (omega arith)

-- a tree stands where it is written
pub written_stands : (nodes : List Node) (place : ℕ) (t : Tree) → place + size_of t ≤ length nodes → Stands (overwrite nodes place (nodes_from place t)) place t
written_stands nodes place t room =
    let long = nodes_length t place in
    subst (λ (l : List Node). Stands l place t) (sym (overwrite_parts nodes place (nodes_from place t) (omega (arith, room, long))))
    (nodes_stand t (take place nodes) (drop (place + length (nodes_from place t)) nodes) place (sym (length-take-le place nodes (omega (arith, room)))))

-- ---- the best tree in cell 0

module _ (price : Price) (lines : List Line) (wants best line : ℕ → ℕ) (law : Lawful price) (range : (i : ℕ) → i < 6 → LineInRange (line_of lines i))
    (bests : Bests price lines wants best line) where
  no_line_polled : Unpolled 0 0
  no_line_polled i l out = ap (λ (n : ℕ). n % 3) (zero-div (3 ^ i))

  top_cheapest : (other : Tree) → GivesWanted wants other → PollsOnce 0 other → best 0 ≤ cost_of price lines 6 other
  top_cheapest other right once = subst (λ (n : ℕ). best 0 ≤ cost_of price lines n other) free_whole
      (lower price lines wants best line law range bests other 0 0 (lit≤ tt) once no_line_polled (λ e l c. right e l))

  module _ (t : Tree) (is_best : BestTree wants line 0 t) where
    top_right : GivesWanted wants t
    top_right e l = best_right price lines wants best line bests t 0 (lit≤ tt) is_best e l (covers_all e)

    pub top_once : PollsOnce 0 t
    top_once = best_polls_once price lines wants best line bests t 0 0 (lit≤ tt) (λ i h. absurd (∈_none i h)) is_best

    top_cost : cost_of price lines 6 t ≡ best 0
    top_cost = subst (λ (n : ℕ). cost_of price lines n t ≡ best 0) free_whole (best_cost price lines wants best line bests t 0 (lit≤ tt) is_best)

    top_mean : price ≡ expected → IsTrillionfold (mean_cost lines t) (best 0)
    top_mean same = subst (IsTrillionfold (mean_cost lines t)) (sym (ap (λ (m : Price). cost_of m lines 6 t) same) ∙ top_cost) (mean_trillionfold lines t top_once)

  -- a state is fitted where its tree is written from its tables
  pub state_fitted : (place : ℕ) (before after : List Node) (behind : ℕ) → place + 127 ≤ length before → Written wants line 0 place before after behind
      → StateFitted price lines wants place before after behind (best 0)
  state_fitted place before after behind room written =
      let t = written.tree in
      let few = size_small t (top_once t written.best) in
      record {
        tree = t;
        best = best;
        line = line;
        bests = bests;
        best_tree = written.best;
        few = few;
        end = written.end;
        nodes = written.nodes;
        stands = subst (λ (l : List Node). Stands l place t) (sym written.nodes) (written_stands before place t (omega (arith, room, few)));
        top = refl;
        costs = sym (top_cost t written.best);
        gives_wanted = top_right t written.best;
        polls_once = top_once t written.best;
        cheapest = top_cheapest;
        mean = top_mean t written.best;
      }

-- ---- for a state of a rule, that is what fitting promises

pub rule_fitted : (price : Price) (rule : Rule) (q : ℕ) (wants : ℕ → ℕ) (place : ℕ) (before after : List Node) (behind cost : ℕ) → Lawful price → WellFormed rule → Wants rule q wants
    → (state : StateFitted price rule.lines wants place before after behind cost) → Fitted price rule q state.tree cost
rule_fitted price rule q wants place before after behind cost law well is-wanted state =
    subst (Fitted price rule q state.tree) (sym state.top)
    (best_fitted price rule q wants state.best state.line law well is-wanted state.bests state.tree state.best_tree)
