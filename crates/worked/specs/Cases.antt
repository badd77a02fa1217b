-- The worked cases: numbers, cells, one rule with its file, its trees, its watch and its rehearsals, and four small rules over every list of events.
use Rattle.std.specs.Prelude.{◌≡◌, ℕ, Bool, true, false, List, [], ◌∷◌, length, take, Some, Ok, Err, codes, slice_index_or}
use Rattle.std.specs.Borrow.{Bor}
use Rattle.std.specs.List.{AllByRecursion}
use Rattle.codec.specs.declared.fault.Layer.TheVariants as layer
use Rattle.codec.specs.declared.fault.NumberFault.{NumberFault}
use Rattle.codec.specs.declared.fault.Report.{Report}
use Rattle.codec.specs.Fault.{number_report}
use Rattle.codec.specs.Number.{number_at}
use Rattle.events.specs.Laws.{FourCells}
use Rattle.rules.specs.declared.Line.{Line}
use Rattle.rules.specs.declared.State.{State}
use Rattle.rules.specs.declared.Move.{Move}
use Rattle.rules.specs.declared.Node.TheVariants as node
use Rattle.rules.specs.declared.Verdict.{Verdict}
use Rattle.rules.specs.declared.Verdict.TheVariants as verdict
use Rattle.rules.specs.declared.Word.TheVariants as word
use Rattle.rules.specs.declared.Call.TheVariants as call
use Rattle.rules.specs.declared.Refusal.TheVariants as refusal
use Rattle.rules.specs.automata.Rules.{Rule, Event}
use Rattle.rules.specs.trees.Trees.{Tree, leaf, fork}
use Rattle.rules.specs.trees.Layouts.{layout}
use Rattle.rules.specs.trees.Costs.{expected, worst}
use Rattle.rules.specs.trees.Bests.{Fitted}
use Rattle.rules.specs.watch.Verdicts.{Shows}
use Rattle.rules.specs.watch.Calls.{Rehearsing, number_of, index_of, take_gives, rehearsal_gives}
use Rattle.rules.specs.watch.Promises.{FittedAll, Promise}
use Rattle.rulefile.specs.File.{Contents, file_of}
use Rattle.listing.specs.Prints.{rule_read, Prints}

-- ---- the parts of a rule

abbrev pub line : ℕ → ℕ → Line
line c p = record { cost = c; chance = p }

-- a state, by whether it is a start state and whether it is accepting
abbrev pub state : Bool → Bool → State
state s a = record { start = s; accepting = a }

-- a move, by its from-state, its cell and its to-state
abbrev pub move : ℕ → ℕ → ℕ → Move
move f c t = record { from = f; cell = c; to = t }

-- ---- what the cases say

-- the number at the front of these bytes is refused, and this is told
abbrev pub NumberRefused : List ℕ → Report → Type 0
NumberRefused bytes report = (fault : NumberFault) × (number_at bytes 0 ≡ Err fault) × (number_report fault ≡ report)

-- a file is good, and holds this rule
abbrev pub ReadAs : List ℕ → Rule → Type 0
ReadAs bytes rule = (c : Contents) × (file_of bytes ≡ Ok c) × (rule_read bytes c ≡ rule)

-- this verdict is to be shown after every list of events that can come
abbrev pub AlwaysShows : Rule → Verdict → Type 0
AlwaysShows rule v = (es : List ℕ) → AllByRecursion (Event rule) es → Shows rule es v

-- ---- the worked rule: four states, of which the first is the start state and the others accept, and seven moves

abbrev pub worked : Rule
worked = record {
  lines = line 10 20 ∷ line 5 50 ∷ line 20 50 ∷ line 1 50 ∷ line 1 50 ∷ line 1 50 ∷ [];
  states = state true false ∷ state false true ∷ state false true ∷ state false true ∷ [];
  moves = move 0 1 1 ∷ move 0 5 2 ∷ move 0 6 1 ∷ move 0 9 3 ∷ move 1 27 1 ∷ move 2 27 2 ∷ move 3 27 3 ∷ [];
}

-- its file of 53 bytes: the version, the lines, of which three are named, the states and the moves
abbrev pub worked_bytes : List ℕ
worked_bytes =
    1 ∷ 10 ∷ 20 ∷ 1 ∷ 97 ∷ 5 ∷ 50 ∷ 1 ∷ 98 ∷ 20 ∷ 50 ∷ 1 ∷ 99 ∷ 1 ∷ 50 ∷ 0 ∷ 1 ∷ 50 ∷ 0 ∷ 1 ∷ 50 ∷ 0
    ∷ 4 ∷ 1 ∷ 0 ∷ 2 ∷ 0 ∷ 2 ∷ 0 ∷ 2 ∷ 0
    ∷ 7 ∷ 0 ∷ 1 ∷ 1 ∷ 0 ∷ 5 ∷ 2 ∷ 0 ∷ 6 ∷ 1 ∷ 0 ∷ 9 ∷ 3 ∷ 1 ∷ 27 ∷ 1 ∷ 2 ∷ 27 ∷ 2 ∷ 3 ∷ 27 ∷ 3 ∷ []

-- the tree of its first state, by expected cost
abbrev pub by_expected : Tree
by_expected = fork 1 (fork 0 (fork 2 (leaf 10) (leaf 2)) (fork 2 (leaf 12) (leaf 4))) (fork 2 (leaf 10) (leaf 2))

-- and by worst cost
abbrev pub by_worst : Tree
by_worst = fork 0 (fork 2 (leaf 10) (leaf 2)) (fork 1 (fork 2 (leaf 12) (leaf 4)) (fork 2 (leaf 10) (leaf 2)))

-- the tree of a state that stays in this set of states as long as line 3 is on
abbrev pub kept_by3 : ℕ → Tree
kept_by3 set = fork 3 (leaf set) (leaf 0)

-- its trees, by expected cost
abbrev pub worked_trees : List Tree
worked_trees = by_expected ∷ kept_by3 2 ∷ kept_by3 4 ∷ kept_by3 8 ∷ []

-- what they cost, times 10 ^ 12
abbrev pub worked_costs : List ℕ
worked_costs = 30000000000000 ∷ 1000000000000 ∷ 1000000000000 ∷ 1000000000000 ∷ []

-- the log over which it is watched
abbrev pub worked_log : List ℕ
worked_log = 5 ∷ 8 ∷ 0 ∷ 1 ∷ []

-- what is then printed
abbrev pub worked_text : List ℕ
worked_text = codes "1 6 OPEN\n2 8 OPEN\n3 8 BREACH\nrefused 41\n"

-- ---- four small rules, whose lines are six of the same kind

abbrev pub six_lines : List Line
six_lines = line 1 50 ∷ line 1 50 ∷ line 1 50 ∷ line 1 50 ∷ line 1 50 ∷ line 1 50 ∷ []

-- the version and six nameless lines, behind which the states and moves stand
abbrev pub behind_lines : List ℕ → List ℕ
behind_lines rest = 1 ∷ 1 ∷ 50 ∷ 0 ∷ 1 ∷ 50 ∷ 0 ∷ 1 ∷ 50 ∷ 0 ∷ 1 ∷ 50 ∷ 0 ∷ 1 ∷ 50 ∷ 0 ∷ 1 ∷ 50 ∷ 0 ∷ rest

-- the start state can stay, and it can go over to an accepting state that stays
abbrev pub clearing : Rule
clearing = record {
  lines = six_lines;
  states = state true false ∷ state false true ∷ [];
  moves = move 0 0 0 ∷ move 0 1 1 ∷ move 1 0 1 ∷ [];
}

abbrev pub clearing_bytes : List ℕ
clearing_bytes = behind_lines (2 ∷ 1 ∷ 0 ∷ 2 ∷ 0 ∷ 3 ∷ 0 ∷ 0 ∷ 0 ∷ 0 ∷ 1 ∷ 1 ∷ 1 ∷ 0 ∷ 1 ∷ [])

-- the start state accepts and can stay, and it can go out and come back
abbrev pub staying : Rule
staying = record {
  lines = six_lines;
  states = state true true ∷ state false false ∷ [];
  moves = move 0 0 0 ∷ move 0 1 1 ∷ move 1 1 0 ∷ [];
}

abbrev pub staying_bytes : List ℕ
staying_bytes = behind_lines (2 ∷ 3 ∷ 0 ∷ 0 ∷ 0 ∷ 3 ∷ 0 ∷ 0 ∷ 0 ∷ 0 ∷ 1 ∷ 1 ∷ 1 ∷ 1 ∷ 0 ∷ [])

-- no state accepts
abbrev pub hopeless : Rule
hopeless = record {
  lines = six_lines;
  states = state true false ∷ state false false ∷ state false false ∷ state false false ∷ [];
  moves = move 0 0 1 ∷ move 1 0 2 ∷ move 2 0 1 ∷ move 2 0 3 ∷ move 3 0 3 ∷ [];
}

abbrev pub hopeless_bytes : List ℕ
hopeless_bytes = behind_lines (4 ∷ 1 ∷ 0 ∷ 0 ∷ 0 ∷ 0 ∷ 0 ∷ 0 ∷ 0 ∷ 5 ∷ 0 ∷ 0 ∷ 1 ∷ 1 ∷ 0 ∷ 2 ∷ 2 ∷ 0 ∷ 1 ∷ 2 ∷ 0 ∷ 3 ∷ 3 ∷ 0 ∷ 3 ∷ [])

-- both states start and accept; one goes on with line 0 on, the other with line 0 off
abbrev pub wavering : Rule
wavering = record {
  lines = six_lines;
  states = state true true ∷ state true true ∷ [];
  moves = move 0 1 0 ∷ move 0 1 1 ∷ move 1 2 0 ∷ move 1 2 1 ∷ [];
}

abbrev pub wavering_bytes : List ℕ
wavering_bytes = behind_lines (2 ∷ 3 ∷ 0 ∷ 3 ∷ 0 ∷ 4 ∷ 0 ∷ 1 ∷ 0 ∷ 0 ∷ 1 ∷ 1 ∷ 1 ∷ 2 ∷ 0 ∷ 1 ∷ 2 ∷ 1 ∷ [])

-- ---- all cases

pub record WorkedCases : Type 0 where
  -- of the 64 events, cell 0 covers all, cell 1 the odd ones, cell 364 just 63, and cell 728 just 0
  pub cells : FourCells
  -- E6 03 is read as 486, and the next number would begin at place 2
  pub number_read : number_at (230 ∷ 3 ∷ []) 0 ≡ Ok (record { value = 486; next = 2 })
  -- 80 00 is not in the fewest bytes: 12 at place 0
  pub number_long : NumberRefused (128 ∷ 0 ∷ []) (record { number = 12; place = 0; layer = layer.Number })
  -- E6 alone ends inside a number: 11 at place 1
  pub number_short : NumberRefused (230 ∷ []) (record { number = 11; place = 1; layer = layer.Number })
  -- the 53 bytes are a good file of the worked rule
  pub rule_is_read : ReadAs worked_bytes worked
  -- its trees and costs by expected cost
  pub by_expected : FittedAll expected worked worked_trees worked_costs
  -- the trees take 20 nodes
  pub twenty_nodes : length (layout worked_trees) ≡ 20
  -- state 0's tree is the first 11 of them: forks on line 1 at 0, on line 0 at 1, on line 2 at 2, 5 and 8; leaves 10, 2, 12, 4, 10 and 2 at 3, 4, 6, 7, 9 and 10
  pub first_nodes : take 11 (layout worked_trees)
      ≡ node.Fork 1 1 8
      ∷ node.Fork 0 2 5
      ∷ node.Fork 2 3 4
      ∷ node.Leaf 10
      ∷ node.Leaf 2
      ∷ node.Fork 2 6 7
      ∷ node.Leaf 12
      ∷ node.Leaf 4
      ∷ node.Fork 2 9 10
      ∷ node.Leaf 10
      ∷ node.Leaf 2
      ∷ []
  -- it costs 30 milliseconds, times 10 ^ 12
  pub first_cost : slice_index_or worked_costs 0 0 ≡ 30000000000000
  -- by worst cost state 0's tree forks on line 0 first, and costs 35
  pub by_worst : Fitted worst worked 0 by_worst 35
  -- of the worked rule's file and the log 05 08 00 01 the four lines are printed
  pub printed : Prints (Some worked_bytes) (Some worked_log) worked_text
  -- and no other text is
  pub printed_alone : (text : List ℕ) → Prints (Some worked_bytes) (Some worked_log) text → text ≡ worked_text
  -- after event 5, rehearsing 8, 0 and 64 finds a breach after 2 events, whatever is still to come
  pub rehearsed : (coming : List ℕ) → Rehearsing worked worked_trees (5 ∷ []) coming (8 ∷ 0 ∷ 64 ∷ []) (rehearsal_gives word.Breach 2) (5 ∷ []) coming
  -- and rehearsing 8 and 64 is refused at index 1
  pub rehearsal_refused : (coming : List ℕ) → Rehearsing worked worked_trees (5 ∷ []) coming (8 ∷ 64 ∷ []) (Err (refusal.NoEvent 1)) (5 ∷ []) coming
  -- that refusal is told by 44
  pub refusal_number : number_of (refusal.NoEvent 1) ≡ 44
  -- and with the index 1
  pub refusal_index : index_of (refusal.NoEvent 1) ≡ Some 1
  -- the take and both rehearsals, as calls of one watch newly armed
  pub rehearsals : (first second : Bor (List ℕ)) (coming : List ℕ) → first.now ≡ 8 ∷ 0 ∷ 64 ∷ [] → second.now ≡ 8 ∷ 64 ∷ []
      → Promise expected worked worked_trees worked_costs (call.Take ∷ call.Rehearse first ∷ call.Rehearse second ∷ []) (5 ∷ coming)
      (take_gives verdict.Open 6 ∷ rehearsal_gives word.Breach 2 ∷ Err (refusal.NoEvent 1) ∷ []) coming
  -- the first small rule, by its file
  pub clearing_read : ReadAs clearing_bytes clearing
  -- start 0, accepting 1, moves (0, 0, 0), (0, 1, 1), (1, 0, 1): CLEAR since 0
  pub clearing_shows : AlwaysShows clearing (verdict.ClearSince 0)
  -- the second
  pub staying_read : ReadAs staying_bytes staying
  -- start and accepting 0, moves (0, 0, 0), (0, 1, 1), (1, 1, 0): CLEAR since 0
  pub staying_shows : AlwaysShows staying (verdict.ClearSince 0)
  -- the third
  pub hopeless_read : ReadAs hopeless_bytes hopeless
  -- start 0, none accepting, moves (0, 0, 1), (1, 0, 2), (2, 0, 1), (2, 0, 3), (3, 0, 3): BREACH at 0
  pub hopeless_shows : AlwaysShows hopeless (verdict.BreachAt 0)
  -- the fourth
  pub wavering_read : ReadAs wavering_bytes wavering
  -- both states start and accepting, moves (0, 1, 0), (0, 1, 1), (1, 2, 0), (1, 2, 1): OPEN for ever
  pub wavering_shows : AlwaysShows wavering verdict.Open
