-- What is to be read stays what was to be read.
use Rattle.std.proofs.Common.{◌≡◌, ◌-◌, fold}
use Rattle.rulefile.specs.File.{row_from, read_by}
use Rattle.rulefile.proofs.rows.pass_rows.Given as goal

abbrev pub invariant-loop-i : goal.invariant-loop-i
invariant-loop-i g l =
    (read_by (fold g.R.Rows.kept l.rows) (row_from g.R.Rows.kept (λ s. g.R.Rows.row_at s l.fn.reader.bytes.now) l.rows l.reader.at (l.count - l._i))
    ≡ read_by (fold g.R.Rows.kept l.fn.rows) (row_from g.R.Rows.kept (λ s. g.R.Rows.row_at s l.fn.reader.bytes.now) l.fn.rows l.fn.reader.at l.count))
    × (l.reader.bytes ≡ l.fn.reader.bytes)
