use Rattle.std.proofs.Common.{◌≡◌, ◌+◌, ◌-◌, ◌<◌, ◌++◌, length, take, set, Ok, sym, ap, ◌∙◌, arith}
use Rattle.std.proofs.lemmas.Result.{err_from_is_err_and}
use Rattle.std.proofs.lemmas.List.{take_all, append-nil}
use Rattle.rulefile.proofs.RowSteps.{row_fault, row_more, row_end, wrote_more}
use Rattle.rulefile.proofs.rows.write_rows.Goals as goal

pub returns-in_err-slot-clause-value : goal.returns-in_err-slot-clause-value
returns-in_err-slot-clause-value g c =
    let p = err_from_is_err_and c.from_residual.result c.from_residual.ensures.1 in
    let here = ap (λ b. g.R.Rows.row_at c.loop-slot.rows b.now c.loop-slot.reader.at) (sym c.loop-slot.invariant.1) ∙ sym c.in_err-slot.ensures.value in
    rw (p.1, p.2) (sym (row_fault g.R.Rows.kept (λ s. g.R.Rows.row_at s c.args.reader.now.bytes.now) (λ xs. take c.loop-slot.slot-index c.loop-slot.slot-items ++ xs) c.loop-slot.rows _ _ _ _ c.loop-slot-test.true here) ∙ c.loop-slot.invariant.0)

pub loop-slot-preserved : goal.loop-slot-preserved
loop-slot-preserved g c =
    let here = ap (λ b. g.R.Rows.row_at c.loop-slot.rows b.now c.loop-slot.reader.at) (sym c.loop-slot.invariant.1) ∙ sym c.in_ok-slot.ensures.value in
    let l : c.loop-slot.slot-index < length c.loop-slot.slot-items = omega arith in (
      sym (row_more g.R.Rows.kept (λ s. g.R.Rows.row_at s c.args.reader.now.bytes.now) (λ xs. take c.loop-slot.slot-index c.loop-slot.slot-items ++ xs)
          (λ xs. take (c.loop-slot.slot-index + 1) (set c.loop-slot.slot-items c.loop-slot.slot-index c.in_ok-slot.field-0) ++ xs) c.loop-slot.rows c.read_row.new.self
          _ _ _ _ _ c.loop-slot-test.true here c.in_ok-slot.ensures.after (λ xs. wrote_more c.loop-slot.slot-items c.loop-slot.slot-index c.in_ok-slot.field-0 xs l)) ∙ c.loop-slot.invariant.0,
      c.in_ok-slot.ensures.bytes ∙ c.loop-slot.invariant.1,
    )

pub returns-clause-value : goal.returns-clause-value
returns-clause-value g c =
    let z : length c.args.list.now - c.loop-slot.slot-index ≡ 0 = omega arith in
    let all : take c.loop-slot.slot-index c.loop-slot.slot-items ≡ c.loop-slot.slot-items = take_all _ _ (omega arith) in
    ap (λ xs. Ok (record { value = xs; next = c.loop-slot.reader.at })) (sym (append-nil _ ∙ all))
    ∙ (sym (row_end g.R.Rows.kept (λ s. g.R.Rows.row_at s c.args.reader.now.bytes.now) (λ xs. take c.loop-slot.slot-index c.loop-slot.slot-items ++ xs) c.loop-slot.rows c.loop-slot.reader.at) ∙ rw z at c.loop-slot.invariant.0)
