-- How the records of a rule and the nodes of its trees are written.
use Rattle.std.specs.Prelude.{ℕ, Bool, true, false, List, ◌++◌, codes, decimal}
use Rattle.rules.specs.declared.Line.{Line}
use Rattle.rules.specs.declared.Move.{Move}
use Rattle.rules.specs.declared.Node.{Node}
use Rattle.rules.specs.declared.Node.TheVariants as node
use Rattle.rules.specs.declared.State.{State}

-- cost 10 chance 20
abbrev pub line_text : Line → List ℕ
line_text l = codes "cost " ++ (decimal l.cost ++ (codes " chance " ++ decimal l.chance))

-- what a state is, by whether a run may begin in it and whether it is accepting
abbrev pub kind_text : Bool → Bool → List ℕ
kind_text true true = codes "both"
kind_text true false = codes "start"
kind_text false true = codes "accepting"
kind_text false false = codes "plain"

abbrev pub state_text : State → List ℕ
state_text s = kind_text s.start s.accepting

-- 0 1 1: from-state, cell, to-state
abbrev pub move_text : Move → List ℕ
move_text m = decimal m.from ++ (codes " " ++ (decimal m.cell ++ (codes " " ++ decimal m.to)))

-- 1?2:5: a fork on line 1, with the places of its parts; a leaf by the number of its set
abbrev pub node_text : Node → List ℕ
node_text (node.Fork line on off) = decimal line ++ (codes "?" ++ (decimal on ++ (codes ":" ++ decimal off)))
node_text (node.Leaf set) = decimal set
