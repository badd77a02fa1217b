use Rattle.std.proofs.Common.{sym, arith}
use Rattle.std.proofs.lemmas.Option.{slice_get_within}
use Rattle.rulefile.proofs.Agree.{few_cards}
use Rattle.rulefile.specs.Draft.{draft_rule, cards_of, card_value}
use Rattle.listing.proofs.cards.CardsIterator.next.Goals as goal

pub overflow_add-self : goal.overflow_add-self
overflow_add-self c =
    let d = c.args.self.now.draft.now in
    let few = few_cards d.file.now d.lines d.states.now d.moves.now d.six d.read d.state_rows d.move_rows in
    let within = slice_get_within (cards_of (draft_rule d)) c.args.self.now.next (card_value c.in_ok-card.card) (sym c.in_ok-card.ensures) in
    omega (arith, few, within)
