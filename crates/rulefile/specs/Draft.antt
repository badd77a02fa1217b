-- What a draft holds, and what its making gives.
use Rattle.std.specs.Prelude.{◌≡◌, ℕ, true, false, List, [], ◌∷◌, ◌++◌, map, length, replicate, Some, None, Ok, Option}
use Rattle.rules.specs.declared.Move.{Move}
use Rattle.rulefile.specs.declared.card.Card.{Card}
use Rattle.rulefile.specs.declared.card.Card.TheVariants as card
use Rattle.rulefile.specs.declared.card.Named.{Named}
use Rattle.rulefile.specs.declared.draft.Draft.{Draft}
use Rattle.rulefile.specs.Records.{LineRecord, StateRecord, NamedValue, LineValue, StateValue, named_value}
use Rattle.rulefile.specs.File.{Contents, checked, overlaid}
use Rattle.rulefile.specs.Rule.{Rule, GoodRule, encode_rule, rule_in}

-- ---- a draft as a value

-- the file, and the records of its lines, states and moves
pub record DraftValue : Type 0 where
  pub file : List ℕ
  pub lines : List LineRecord
  pub states : List StateRecord
  pub moves : List Move

abbrev pub contents_of : Draft → DraftValue
contents_of d = record { file = d.file.now; lines = d.lines; states = d.states.now; moves = d.moves.now }

-- the rule of a draft, with the names that lie in its file
abbrev pub draft_rule : Draft → Rule
draft_rule d = rule_in d.file.now d.lines d.states.now d.moves.now

-- ---- the making

-- the check takes the file, and leaves the lists as they are
pub record Agrees (f : List ℕ) (states : List StateRecord) (moves : List Move) (c : Contents) : Type 0 where
  pub read : checked f (length states) (length moves) ≡ Ok c
  pub states_are : states ≡ overlaid c.states states
  pub moves_are : moves ≡ overlaid c.moves moves

-- the draft of a file
abbrev pub draft_of : List ℕ → Contents → DraftValue
draft_of f c = record { file = f; lines = c.lines; states = c.states; moves = c.moves }

-- the file is the bytes of this rule, which is in range
abbrev pub OfFile : List ℕ → Rule → Type 0
OfFile f rule = GoodRule rule × (f ≡ encode_rule rule)

-- ---- the empty draft

-- six nameless lines of cost 1 and chance 0, one nameless start state, no moves
abbrev pub empty_rule : Rule
empty_rule = record {
  lines = replicate 6 (record { value = record { cost = 1; chance = 0 }; name = [] });
  states = record { value = record { start = true; accepting = false }; name = [] } ∷ [];
  moves = [];
}

-- a nameless line whose name would stand at a place
abbrev pub plain_line : ℕ → LineRecord
plain_line p = record { value = record { cost = 1; chance = 0 }; name = record { at = p; len = 0 } }

-- the records of that rule, over its own file
unfoldable pub empty_contents : DraftValue
empty_contents = record {
  file = 1 ∷ 1 ∷ 0 ∷ 0 ∷ 1 ∷ 0 ∷ 0 ∷ 1 ∷ 0 ∷ 0 ∷ 1 ∷ 0 ∷ 0 ∷ 1 ∷ 0 ∷ 0 ∷ 1 ∷ 0 ∷ 0 ∷ 1 ∷ 1 ∷ 0 ∷ 0 ∷ [];
  lines = plain_line 4 ∷ plain_line 7 ∷ plain_line 10 ∷ plain_line 13 ∷ plain_line 16 ∷ plain_line 19 ∷ [];
  states = record { value = record { start = true; accepting = false }; name = record { at = 22; len = 0 } } ∷ [];
  moves = [];
}

-- ---- what a draft tells

abbrev pub named_option : {T : Type 0} → Option (Named T) → Option (NamedValue T)
named_option None = None
named_option (Some c) = Some (named_value c)

-- a card as a value
pub data CardValue : Type 0 where
  line : LineValue → CardValue
  state : StateValue → CardValue
  move : Move → CardValue

abbrev pub card_value : Card → CardValue
card_value (card.Line c) = line (named_value c)
card_value (card.State c) = state (named_value c)
card_value (card.Move m) = move m

abbrev pub card_option : Option Card → Option CardValue
card_option None = None
card_option (Some c) = Some (card_value c)

-- the cards of a rule: its lines, then its states, then its moves
abbrev pub cards_of : Rule → List CardValue
cards_of r = map line r.lines ++ (map state r.states ++ map move r.moves)
