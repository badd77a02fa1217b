-- The one-state rule: its draft, and its one tree, the leaf of the empty set.
use Rattle.std.proofs.Common.{◌≡◌, ℕ, zero, suc, ◌<◌, [], ◌∷◌, map, get_or, replicate, refl, ap, ◌∙◌, le_of_suc-le-suc, not-suc-le-zero, arith, lit≤}
use Rattle.rules.specs.automata.Rules.{Rule, Accepts, LineInRange, WellFormed}
use Rattle.rules.specs.automata.Runs.{Live}
use Rattle.rules.specs.trees.Trees.{leaf}
use Rattle.rules.specs.trees.Layouts.{Stands, top_of}
use Rattle.rules.specs.trees.Costs.{Price, Lawful, expected}
use Rattle.rules.specs.trees.Bests.{Bests, Fitted}
use Rattle.rules.specs.watch.Holding.{tree_of}
use Rattle.rules.proofs.automata.PruningLaws.{serves_implements}
use Rattle.rules.proofs.trees.BestLaws.{best_fitted}
use Rattle.rules.proofs.trees.MeasureLaws.{expected_lawful}
use Rattle.rules.proofs.watch.WatchLaws.{dead_serves}
use Rattle.rulefile.specs.declared.draft.Draft.{Draft}
use Rattle.rulefile.specs.File.{Contents}
use Rattle.rulefile.specs.Rule.{named_in}
use Rattle.rulefile.specs.Draft.{DraftValue, contents_of, empty_contents, Agrees}
use Rattle.pruning.specs.Computed.{live_states, safe_states, lowest_safe}
use Rattle.pruning.specs.Drafts.{rule_of}
use Rattle.fitting.specs.declared.fit.Fitting.{Fitting}
use Rattle.fitting.specs.Fits.{DraftFitted, no_tree}
use Rattle.fitting.specs.Reading.{Walkable, GivesPruned}
use Rattle.fitting.specs.Plans.{one_state, one_leaf}
use Rattle.fitting.proofs.AllStates.{none_past, rule_kinds}
use Rattle.fitting.proofs.ReadLaws.{fit_walkable, fit_gives}

-- ---- its draft

-- the rule of what a draft holds
abbrev rule_from : DraftValue → Rule
rule_from v = record { lines = map (λ l. l.value) (map (named_in v.file) v.lines); states = map (λ s. s.value) (map (named_in v.file) v.states); moves = v.moves }

empty_is : rule_from empty_contents ≡ one_state
unfolding empty_contents
empty_is = refl

pub contents_rule : (d : Draft) → contents_of d ≡ empty_contents → rule_of d ≡ one_state
contents_rule d e = ap rule_from e ∙ empty_is

-- drafts that hold the same have the same rule
pub contents_same : (d e : Draft) → contents_of d ≡ contents_of e → rule_of d ≡ rule_of e
contents_same d e same = ap rule_from same

-- with no room for records no file is taken
pub none_agrees : (c : Contents) → Agrees [] [] [] c → ⊥
none_agrees c agrees = let e = agrees.read in let z : ◌≡◌ {A = ℕ} 0 1 = cc in omega arith

-- ---- its tree

line_ok : LineInRange (record { cost = 1; chance = 0 })
line_ok = record { cost_low = lit≤ tt; cost_high = lit≤ tt; chance_high = lit≤ tt }

pub one_well : WellFormed one_state
one_well = record {
  six_lines = refl;
  lines_fit = (line_ok, (line_ok, (line_ok, (line_ok, (line_ok, (line_ok, tt))))));
  some_state = lit≤ tt;
  few_states = lit≤ tt;
  some_start = (0, tt);
  few_moves = lit≤ tt;
  moves_fit = tt;
  ascending = λ k d l. absurd (not-suc-le-zero l);
}

accepts_none : (a : ℕ) → Accepts one_state a → ⊥
accepts_none zero h = h
accepts_none (suc a) h = h

one_dead : Live one_state 0 → ⊥
one_dead live = accepts_none live.accepting live.accepts

-- every cell is constant
one_bests : (price : Price) → Bests price one_state.lines (λ _. 0) (λ _. 0) (λ _. 0)
one_bests price = record { constant = λ cell l c. refl; forked = λ cell l varies. absurd (varies (λ a b la lb ca cb. refl)) }

one_fitted : (price : Price) → Lawful price → Fitted price one_state 0 (leaf 0) 0
one_fitted price law = best_fitted price one_state 0 (λ _. 0) (λ _. 0) (λ _. 0) law one_well (dead_serves one_state 0 one_dead) (one_bests price) (leaf 0) (λ e l c. refl)

-- the one state is the state 0
only_zero : (P : ℕ → Type 0) → P 0 → (q : ℕ) → q < 1 → P q
only_zero P h zero l = h
only_zero P h (suc q) l = absurd (not-suc-le-zero (le_of_suc-le-suc l))

-- what fitting would tell
abbrev pub one_told : Fitting
one_told = record { trees = replicate 32 no_tree; states = 1; behind = 1 }

-- the leaf is the rule's fitted tree
pub one_draft_fitted : (price : Price) → Lawful price → DraftFitted price one_state one_leaf one_leaf one_told
one_draft_fitted price law =
    let fitted : (q : ℕ) → q < 1 → Fitted price one_state q (tree_of (leaf 0 ∷ []) q) (get_or (0 ∷ []) q 0) = only_zero (λ q. Fitted price one_state q (tree_of (leaf 0 ∷ []) q) (get_or (0 ∷ []) q 0)) (one_fitted price law) in
    record {
      trees = leaf 0 ∷ [];
      counted = refl;
      fitted = record { a_tree_each = refl; a_cost_each = refl; fitted = fitted };
      implements = λ live safe release kinds q l. (serves_implements one_state live safe release kinds q (tree_of (leaf 0 ∷ []) q)).0 (fitted q l).serves;
      kinds = (live_states one_state, (safe_states one_state, (lowest_safe one_state, rule_kinds one_state one_well)));
      behind_is = refl;
      within = lit≤ tt;
      nodes = refl;
      tops_are = only_zero (λ q. get_or (replicate 32 0) q 0 ≡ top_of (leaf 0 ∷ []) q) refl;
      stands = only_zero (λ q. Stands one_leaf (get_or (replicate 32 0) q 0) (tree_of (leaf 0 ∷ []) q)) (lit≤ tt, refl);
      past = λ q l. none_past 32 q;
    }

-- it can be walked, and gives the pruned sets
pub one_walkable : Walkable one_state one_leaf (replicate 32 0)
one_walkable = fit_walkable expected one_state one_leaf one_leaf one_told (one_draft_fitted expected expected_lawful)

pub one_gives : GivesPruned one_state one_leaf (replicate 32 0)
one_gives = fit_gives expected one_state one_leaf one_leaf one_told (one_draft_fitted expected expected_lawful) one_well
