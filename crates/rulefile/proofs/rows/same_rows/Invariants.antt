-- The list begins with what was read, and what is to be read stays what was to be read.
use Rattle.std.proofs.Common.{◌≡◌, ◌-◌, ◌++◌, length, take}
use Rattle.rulefile.specs.File.{row_from, read_by}
use Rattle.rulefile.proofs.rows.same_rows.Given as goal

abbrev pub invariant-loop-row : goal.invariant-loop-row
invariant-loop-row g l =
    (read_by (λ xs. take l.row-index l.list ++ xs) (row_from g.R.Rows.kept (λ s. g.R.Rows.row_at s l.fn.reader.bytes.now) l.rows l.reader.at (length l.list - l.row-index))
    ≡ row_from g.R.Rows.kept (λ s. g.R.Rows.row_at s l.fn.reader.bytes.now) l.fn.rows l.fn.reader.at (length l.list))
    × (l.reader.bytes ≡ l.fn.reader.bytes)
