use Rattle.std.proofs.Common.{◌≡◌, ℕ, ◌+◌, ◌-◌, ◌∷◌, ◌++◌, length, take, Ok, sym, refl, ap, ◌∙◌, arith}
use Rattle.std.proofs.lemmas.List.{take_all, append-nil}
use Rattle.rulefile.proofs.Checked.{refuse}
use Rattle.rulefile.proofs.RowSteps.{row_fault, row_more, row_end, same_more, differs, no_row}
use Rattle.rulefile.proofs.rows.same_rows.Goals as goal

pub returns-in_default : goal.returns-in_default
returns-in_default g c =
    let here = ap (λ b. g.R.Rows.row_at c.loop-row.rows b.now c.loop-row.reader.at) (sym c.loop-row.invariant.1) ∙ sym c.in_default.ensures.value in
    let bad = row_fault g.R.Rows.kept (λ s. g.R.Rows.row_at s c.args.reader.bytes.now) (λ xs. take c.loop-row.row-index c.args.list.now ++ xs) c.loop-row.rows _ _ _ _ c.loop-row-test.true here in
    refuse (no_row _ _ _ (sym c.loop-row.invariant.0 ∙ bad))

pub returns-then-not-is_same : goal.returns-then-not-is_same
returns-then-not-is_same g c =
    let here = ap (λ b. g.R.Rows.row_at c.loop-row.rows b.now c.loop-row.reader.at) (sym c.loop-row.invariant.1) ∙ sym c.in-Ok.ensures.value in
    let step = row_more g.R.Rows.kept (λ s. g.R.Rows.row_at s c.args.reader.bytes.now) (λ xs. take c.loop-row.row-index c.args.list.now ++ xs)
    (λ xs. take c.loop-row.row-index c.args.list.now ++ (c.in-Ok.read ∷ xs)) c.loop-row.rows c.read_row.new.self _ _ _ _ _ c.loop-row-test.true here c.in-Ok.ensures.after (λ xs. refl) in
    refuse (λ h.
    let e = differs c.args.list.now c.loop-row.row-index c.row-item.result c.in-Ok.read _ _ c.loop-row-test.true (sym step ∙ c.loop-row.invariant.0) h in
    let t = c.is_same.ensures.1 (c.row-item.is ∙ e) in
    let f = c.if-not-is_same.true in
    let z : ◌≡◌ {A = ℕ} 0 1 = cc in omega arith)

pub loop-row-preserved : goal.loop-row-preserved
loop-row-preserved g c =
    let here = ap (λ b. g.R.Rows.row_at c.loop-row.rows b.now c.loop-row.reader.at) (sym c.loop-row.invariant.1) ∙ sym c.in-Ok.ensures.value in (
      sym (row_more g.R.Rows.kept (λ s. g.R.Rows.row_at s c.args.reader.bytes.now) (λ xs. take c.loop-row.row-index c.args.list.now ++ xs)
          (λ xs. take (c.loop-row.row-index + 1) c.args.list.now ++ xs) c.loop-row.rows c.read_row.new.self
          _ _ _ _ _ c.loop-row-test.true here c.in-Ok.ensures.after
          (λ xs. same_more c.args.list.now c.loop-row.row-index c.row-item.result c.in-Ok.read xs c.loop-row-test.true (sym c.row-item.is ∙ c.is_same.ensures.0 c.if-not-is_same.false))) ∙ c.loop-row.invariant.0,
      c.in-Ok.ensures.bytes ∙ c.loop-row.invariant.1,
    )

pub returns : goal.returns
returns g c =
    let z : length c.args.list.now - c.loop-row.row-index ≡ 0 = omega arith in
    let all : take c.loop-row.row-index c.args.list.now ≡ c.args.list.now = take_all _ _ (omega arith) in (
      (λ _. (
        c.loop-row.reader.at,
        sym (ap (λ xs. Ok (record { value = xs; next = c.loop-row.reader.at })) (sym (append-nil _ ∙ all))
            ∙ (sym (row_end g.R.Rows.kept (λ s. g.R.Rows.row_at s c.args.reader.bytes.now) (λ xs. take c.loop-row.row-index c.args.list.now ++ xs) c.loop-row.rows c.loop-row.reader.at) ∙ rw z at c.loop-row.invariant.0)),
      )),
      λ _. refl,
    )
