-- A log begins with the run of its first pair.
use Rattle.sources.proofs.Playing.{begin_sound, begin_plays, refused_plays, plays_pairs, none_playable}
use Rattle.sources.proofs.change.ChangeLog.over.Goals as goal

pub invariant_of-result : goal.invariant_of-result
invariant_of-result c =
    elim c.match-check_changes.branch [
      | goal.in-Ok w ↦ simp w.result-is (record { playable = begin_sound c.args.bytes.now w.first_run.result w.in-Ok.ensures.fault w.first_run.ensures })
      | goal.in-Err w ↦ simp w.result-is (record { playable = none_playable })
    ]

pub returns : goal.returns
returns c =
    elim c.match-check_changes.branch [
      | goal.in-Ok w ↦
          let p = begin_plays c.args.bytes.now w.first_run.result w.in-Ok.ensures.fault w.first_run.ensures in
          simp w.result-is (record { played = p; means = plays_pairs c.args.bytes.now _ (λ i. (c.type_inv.bytes i).fits) p })
      | goal.in-Err w ↦
          let p = refused_plays c.args.bytes.now w.in-Err.field-0 w.in-Err.ensures.fault in
          simp w.result-is (record { played = p; means = plays_pairs c.args.bytes.now _ (λ i. (c.type_inv.bytes i).fits) p })
    ]
