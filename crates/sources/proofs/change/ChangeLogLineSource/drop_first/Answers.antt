-- One event less of the run, or the next pair's run.
use Rattle.std.proofs.Common.{sym, ap, ◌∙◌, subst}
use Rattle.std.specs.Option.{ForSome}
use Rattle.sources.specs.ChangeLogs.{played_from, IsPlayable}
use Rattle.sources.specs.Waiting.{later_of}
use Rattle.sources.proofs.Playing.{after_sound, after_plays}
use Rattle.sources.proofs.change.ChangeLogLineSource.drop_first.Goals as goal

pub invariant_of-self : goal.invariant_of-self
invariant_of-self c =
    let log = c.args.self.now in
    let sound = log.playable c.in_ok-run.run' c.in_ok-run.ensures.ok_part in
    record { playable = subst (λ r. ForSome r (IsPlayable log.bytes.now)) (sym c.run_after-self.ensures) (after_sound log.bytes.now c.in_ok-run.run' sound) }

pub returns-clause-after : goal.returns-clause-after
returns-clause-after c =
    let log = c.args.self.now in
    let sound = log.playable c.in_ok-run.run' c.in_ok-run.ensures.ok_part in
    ap (played_from log.bytes.now) c.run_after-self.ensures
    ∙ (after_plays log.bytes.now c.in_ok-run.run' sound ∙ ap (λ o. later_of (played_from log.bytes.now o)) (sym c.in_ok-run.ensures.ok_part))
