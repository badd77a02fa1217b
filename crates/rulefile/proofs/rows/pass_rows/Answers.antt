use Rattle.std.proofs.Common.{◌≡◌, ◌-◌, fold, sym, ap, ◌∙◌, arith}
use Rattle.std.proofs.lemmas.Result.{err_from_is_err_and}
use Rattle.rulefile.proofs.RowSteps.{row_fault, row_more, row_end}
use Rattle.rulefile.proofs.rows.pass_rows.Goals as goal

pub returns-in_err-read_row-clause-value : goal.returns-in_err-read_row-clause-value
returns-in_err-read_row-clause-value g c =
    let p = err_from_is_err_and c.from_residual.result c.from_residual.ensures.1 in
    let here = ap (λ b. g.R.Rows.row_at c.loop-i.rows b.now c.loop-i.reader.at) (sym c.loop-i.invariant.1) ∙ sym c.in_err-read_row.ensures.value in
    rw (p.1, p.2) (sym (row_fault g.R.Rows.kept (λ s. g.R.Rows.row_at s c.args.reader.now.bytes.now) (fold g.R.Rows.kept c.loop-i.rows) c.loop-i.rows _ _ _ _ c.loop-i-test.true here) ∙ c.loop-i.invariant.0)

pub loop-i-preserved : goal.loop-i-preserved
loop-i-preserved g c =
    let here = ap (λ b. g.R.Rows.row_at c.loop-i.rows b.now c.loop-i.reader.at) (sym c.loop-i.invariant.1) ∙ sym c.in_ok-read_row.ensures.value in (
      sym (row_more g.R.Rows.kept (λ s. g.R.Rows.row_at s c.args.reader.now.bytes.now) (fold g.R.Rows.kept c.loop-i.rows) (fold g.R.Rows.kept c.read_row.new.self) c.loop-i.rows c.read_row.new.self
          _ _ _ _ _ c.loop-i-test.true here c.in_ok-read_row.ensures.after (λ xs. ap (λ s. fold g.R.Rows.kept s xs) (sym c.in_ok-read_row.ensures.after))) ∙ c.loop-i.invariant.0,
      c.in_ok-read_row.ensures.bytes ∙ c.loop-i.invariant.1,
    )

pub returns-clause-value : goal.returns-clause-value
returns-clause-value g c =
    let z : c.args.count - c.loop-i._i ≡ 0 = omega arith in
    sym (row_end g.R.Rows.kept (λ s. g.R.Rows.row_at s c.args.reader.now.bytes.now) (fold g.R.Rows.kept c.loop-i.rows) c.loop-i.rows c.loop-i.reader.at) ∙ rw z at c.loop-i.invariant.0
