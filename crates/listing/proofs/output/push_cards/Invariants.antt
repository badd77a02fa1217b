use Rattle.std.proofs.Common.{◌≡◌, ◌++◌, string_bytes}
use Rattle.std.specs.List.{flat_map}
use Rattle.rulefile.specs.Draft.{draft_rule, cards_of}
use Rattle.listing.specs.Text.{cards_text}
use Rattle.listing.specs.Cards.{cards_left}
use Rattle.listing.proofs.Lines.{numbered_line}
use Rattle.listing.proofs.output.push_cards.Given as goal

abbrev pub invariant-loop-card : goal.invariant-loop-card
invariant-loop-card l =
    string_bytes l.text ++ flat_map numbered_line (cards_left l.card-iterator) ≡ string_bytes l.initial.text ++ cards_text 0 (cards_of (draft_rule l.draft))
