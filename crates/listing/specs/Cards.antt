-- The cards of a draft that an iterator over them has still to give, each with its number.
use Rattle.std.specs.Prelude.{ℕ, List, drop}
use Rattle.std.specs.List.{enumerate_from}
use Rattle.rulefile.specs.Draft.{CardValue, card_value, cards_of, draft_rule}
use Rattle.listing.specs.declared.card.NumberedCard.{NumberedCard}
use Rattle.listing.specs.declared.cards.Cards.{Cards}

-- a card's number among the cards of its rule, and the card
abbrev pub numbered_value : NumberedCard → ℕ × CardValue
numbered_value c = (c.number, card_value c.card)

-- the cards from the next number on
abbrev pub cards_left : Cards → List (ℕ × CardValue)
cards_left it = enumerate_from it.next (drop it.next (cards_of (draft_rule it.draft.now)))
