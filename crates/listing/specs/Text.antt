-- What the program prints of a rule, card by card, and of a refusal.
use Rattle.std.specs.Prelude.{ℕ, suc, ◌-◌, List, [], ◌∷◌, ◌++◌, Some, None, codes, decimal, Option}
use Rattle.rules.specs.Text.{move_text}
use Rattle.rulefile.specs.Draft.{CardValue, line, state, move}
use Rattle.rulefile.specs.Text.{line_card_text, state_card_text}

-- a card with the number i: line 0 cost 10 chance 20 a, state 0 start or move 0 1 1; the six lines come first, so a state's own number is 6 less
abbrev pub numbered_text : ℕ → CardValue → List ℕ
numbered_text i (line v) = codes "line " ++ (decimal i ++ (codes " " ++ line_card_text v))
numbered_text i (state v) = codes "state " ++ (decimal (i - 6) ++ (codes " " ++ state_card_text v))
numbered_text i (move m) = codes "move " ++ move_text m

-- its line
abbrev pub card_text : ℕ → CardValue → List ℕ
card_text i card = numbered_text i card ++ codes "\n"

-- the cards from the number i on
unfoldable pub cards_text : ℕ → List CardValue → List ℕ
cards_text i [] = []
cards_text i (card ∷ cards) = card_text i card ++ cards_text (suc i) cards

-- events 4
abbrev pub events_text : ℕ → List ℕ
events_text n = codes "events " ++ (decimal n ++ codes "\n")

-- refused 13 at 4, or without a place
abbrev pub refused_text : ℕ → Option ℕ → List ℕ
refused_text number None = codes "refused " ++ decimal number
refused_text number (Some place) = codes "refused " ++ (decimal number ++ (codes " at " ++ decimal place))

-- a refusal's line
abbrev pub refusal_text : ℕ → Option ℕ → List ℕ
refusal_text number place = refused_text number place ++ codes "\n"
