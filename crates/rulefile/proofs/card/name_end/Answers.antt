use Rattle.std.proofs.Common.{refl, sym, ap, ◌∙◌, arith}
use Rattle.std.proofs.lemmas.Bool.{ltb-true}
use Rattle.std.proofs.lemmas.List.{get_or_read_under}
use Rattle.rulefile.specs.Card.{is_name_byte}
use Rattle.rulefile.proofs.Names.{name_byte, name_more}
use Rattle.rulefile.proofs.card.name_end.Goals as goal

pub returns-then-not-is_name_byte-clause-value : goal.returns-then-not-is_name_byte-clause-value
returns-then-not-is_name_byte-clause-value c =
    let there = ltb-true c.loop-place.place _ (sym c.in-Some.ensures.lookup.0) in
    let read = get_or_read_under c.args.file.now c.loop-place.place _ c.in-Some.byte.now 0 c.in-Some.ensures.lookup.1 there refl in
    sym (name_byte _ _ _ c.loop-place-test.true there (ap is_name_byte (sym read) ∙ sym c.if-not-is_name_byte.ensures)) ∙ c.loop-place.invariant.0

pub loop-place-preserved : goal.loop-place-preserved
loop-place-preserved c =
    let there = ltb-true c.loop-place.place _ (sym c.in-Some.ensures.lookup.0) in
    let read = get_or_read_under c.args.file.now c.loop-place.place _ c.in-Some.byte.now 0 c.in-Some.ensures.lookup.1 there refl in (
      sym (name_more _ _ _ c.loop-place-test.true there (ap is_name_byte (sym read) ∙ sym c.if-not-is_name_byte.ensures)) ∙ c.loop-place.invariant.0,
      omega arith,
    )
