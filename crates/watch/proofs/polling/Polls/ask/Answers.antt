-- A line that was polled before is known, and any other is polled and then known.
use Rattle.std.proofs.Common.{◌≡◌, ◌*◌, ◌%◌, ◌^◌, sym, refl, ap, ◌∙◌, rules}
use Rattle.events.specs.Sets.{has}
use Rattle.watch.specs.Polling.{head_of}
use Rattle.watch.proofs.PollLaws.{asked, or_present, known_has, seen_on, seen_off}
use Rattle.watch.proofs.polling.Polls.ask.Goals as goal

pub returns-then-was_polled-clause-answer : goal.returns-then-was_polled-clause-answer
returns-then-was_polled-clause-answer g c =
    let self = c.args.self.now in
    let line = c.args.line in
    let here : c.from.result ≡ self.on = search rules in
    c.contains.ensures ∙ ap (λ x. has x line) (here ∙ self.known)
    ∙ known_has (head_of (g.S.LineSource.events self.source.now)) self.polled line (sym c.was_polled.ensures ∙ c.if-was_polled.true)

pub returns-then-was_polled-clause-polled : goal.returns-then-was_polled-clause-polled
returns-then-was_polled-clause-polled g c = sym (or_present c.args.self.now.polled c.args.line (sym c.was_polled.ensures ∙ c.if-was_polled.true))

pub invariant_of-self-clause-known : goal.invariant_of-self-clause-known
invariant_of-self-clause-known g c =
    let self = c.args.self.now in
    let line = c.args.line in
    let with_line : 1 * 2 ^ line % 256 ≡ 2 ^ line = search rules in
    rw with_line (seen_on _ self.polled _ self.on _ line self.known refl refl _ (asked (g.S.LineSource.events self.source.now) line c.in-Ok.on c.requires c.in-Ok.ensures) c.if-on.true)

pub invariant_of-self-else-on-clause-known : goal.invariant_of-self-else-on-clause-known
invariant_of-self-else-on-clause-known g c =
    let self = c.args.self.now in
    let line = c.args.line in
    let with_line : 1 * 2 ^ line % 256 ≡ 2 ^ line = search rules in
    rw with_line (seen_off _ self.polled _ self.on line self.known refl _ (asked (g.S.LineSource.events self.source.now) line c.in-Ok.on c.requires c.in-Ok.ensures) c.if-on.false)
