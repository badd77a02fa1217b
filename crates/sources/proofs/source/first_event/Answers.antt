-- Each turn adds one line.
use Rattle.std.proofs.Common.{◌≡◌, ap, ◌∙◌, arith}
use Rattle.std.proofs.lemmas.Bool.{cond-true, lt-ltb}
use Rattle.sources.specs.Waiting.{first_of}
use Rattle.sources.proofs.Gather.{lines_below, more_on, more_off, polled_some, none_yet, all_lines_lem}
use Rattle.sources.proofs.source.first_event.Goals as goal
use Rattle.sources.proofs.source.first_event.Goals.{then-branch, else-branch}

pub loop-line-init : goal.loop-line-init
loop-line-init g c = (none_yet (first_of (g.S.LineSource.events c.args.source.now)), λ h. absurd (omega arith))

pub loop-line-preserved : goal.loop-line-preserved
loop-line-preserved g c =
    let first = first_of (g.S.LineSource.events c.args.source.now) in
    let line = c.loop-line.line in
    let on = c.in_ok-poll.field-0 in
    let p = c.in_ok-poll.ensures in
    elim c.if-branch.branch [
      | then-branch w ↦ (w.event-is ∙ w.with_line-event.ensures ∙ (cond-true _ _ _ (lt-ltb line 6 (omega arith)) ∙ more_on first line c.loop-line.event on (omega arith) p c.loop-line.invariant.0 w.if-branch.true), λ _. polled_some first line on (omega arith) p)
      | else-branch w ↦ (w.event-is ∙ more_off first line c.loop-line.event on (omega arith) p c.loop-line.invariant.0 w.if-branch.false, λ _. polled_some first line on (omega arith) p)
    ]

pub returns : goal.returns
returns g c =
    let events = g.S.LineSource.events c.args.source.now in
    let six : c.loop-line.line ≡ 6 = omega arith in
    all_lines_lem events c.loop-line.event (g.S.LineSource.small c.args.source.now)
    (c.loop-line.invariant.0 ∙ ap (lines_below (first_of events)) six) (c.loop-line.invariant.1 (omega arith))
