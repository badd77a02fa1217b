use Rattle.std.proofs.Common.{fold, sym, ap, ◌∙◌}
use Rattle.std.proofs.lemmas.Result.{err_from_is_err_and}
use Rattle.std.proofs.lemmas.Bool.{lt-ltb, le-ltb}
use Rattle.rulefile.specs.declared.rows.States.{States}
use Rattle.rulefile.specs.File.{file_of, row_from, count_at}
use Rattle.rulefile.proofs.RowSteps.{by_err, by_ok, row_length}
use Rattle.rulefile.proofs.Listed.{lines_read, states_read, moves_read, states_started, flip_true, flip_false}
use Rattle.rulefile.proofs.outline.scan.Goals as goal

pub returns-in_err-read_ranged : goal.returns-in_err-read_ranged
unfolding file_of
returns-in_err-read_ranged c =
    let p = err_from_is_err_and c.from_residual.result c.from_residual.ensures.1 in
    let x = sym c.in_err-read_ranged.ensures.value in
    rw (p.1, p.2, x)

pub returns-in_err-write_rows : goal.returns-in_err-write_rows
unfolding file_of
returns-in_err-write_rows c =
    let p = err_from_is_err_and c.from_residual-in_err-write_rows.result c.from_residual-in_err-write_rows.ensures.1 in
    let v = sym c.in_ok-read_ranged.ensures.value in
    let b1 = ap (λ b. b.now) c.in_ok-read_ranged.ensures.kept in
    let x = lines_read _ _ c.args.file.now _ _ _ b1 c.in_err-write_rows.ensures.value in
    rw (p.1, p.2, v, x)

pub returns-in_err-states : goal.returns-in_err-states
unfolding file_of
returns-in_err-states c =
    let p = err_from_is_err_and c.from_residual-in_err-states.result c.from_residual-in_err-states.ensures.1 in
    let v = sym c.in_ok-read_ranged.ensures.value in
    let b1 = ap (λ b. b.now) c.in_ok-read_ranged.ensures.kept in
    let l = lines_read _ _ c.args.file.now _ _ _ b1 c.in_ok-write_rows.ensures.value in
    let b2 = ap (λ b. b.now) c.in_ok-write_rows.ensures.bytes ∙ b1 in
    let x = ap (λ x. count_at x c.write_rows.new.reader.at 1 32) (sym b2) ∙ sym c.in_err-states.ensures.value in
    rw (p.1, p.2, v, l, x)

pub returns-in_err-scanned : goal.returns-in_err-scanned
unfolding file_of
returns-in_err-scanned c =
    let p = err_from_is_err_and c.from_residual-in_err-scanned.result c.from_residual-in_err-scanned.ensures.1 in
    let v = sym c.in_ok-read_ranged.ensures.value in
    let b1 = ap (λ b. b.now) c.in_ok-read_ranged.ensures.kept in
    let l = lines_read _ _ c.args.file.now _ _ _ b1 c.in_ok-write_rows.ensures.value in
    let b2 = ap (λ b. b.now) c.in_ok-write_rows.ensures.bytes ∙ b1 in
    let n = ap (λ x. count_at x c.write_rows.new.reader.at 1 32) (sym b2) ∙ sym c.in_ok-states.ensures.value in
    let b3 = ap (λ b. b.now) c.in_ok-states.ensures.kept ∙ b2 in
    let x = states_read _ _ c.args.file.now _ _ _ _ b3 (sym (by_err (fold _ _) (row_from _ _ _ _ _) _ c.in_err-scanned.ensures.value)) in
    rw (p.1, p.2, v, l, n, x)

pub returns-then-not-scanned : goal.returns-then-not-scanned
unfolding file_of
returns-then-not-scanned c =
    let v = sym c.in_ok-read_ranged.ensures.value in
    let b1 = ap (λ b. b.now) c.in_ok-read_ranged.ensures.kept in
    let l = lines_read _ _ c.args.file.now _ _ _ b1 c.in_ok-write_rows.ensures.value in
    let b2 = ap (λ b. b.now) c.in_ok-write_rows.ensures.bytes ∙ b1 in
    let n = ap (λ x. count_at x c.write_rows.new.reader.at 1 32) (sym b2) ∙ sym c.in_ok-states.ensures.value in
    let b3 = ap (λ b. b.now) c.in_ok-states.ensures.kept ∙ b2 in
    let t = by_ok (fold _ _) (row_from _ _ _ _ _) _ c.in_ok-scanned.ensures.value in
    let s = states_read _ _ c.args.file.now _ _ _ _ b3 (sym t.1) in
    let start = sym (ap (λ (s : States). s.start) t.2 ∙ states_started _ t.0 c.default.ensures) in
    let b4 = ap (λ b. b.now) c.in_ok-scanned.ensures.bytes ∙ b3 in
    let any = start ∙ flip_true _ c.if-not-scanned.true in
    rw (v, l, n, s, any)

pub returns-in_err-moves : goal.returns-in_err-moves
unfolding file_of
returns-in_err-moves c =
    let p = err_from_is_err_and c.from_residual-in_err-moves.result c.from_residual-in_err-moves.ensures.1 in
    let v = sym c.in_ok-read_ranged.ensures.value in
    let b1 = ap (λ b. b.now) c.in_ok-read_ranged.ensures.kept in
    let l = lines_read _ _ c.args.file.now _ _ _ b1 c.in_ok-write_rows.ensures.value in
    let b2 = ap (λ b. b.now) c.in_ok-write_rows.ensures.bytes ∙ b1 in
    let n = ap (λ x. count_at x c.write_rows.new.reader.at 1 32) (sym b2) ∙ sym c.in_ok-states.ensures.value in
    let b3 = ap (λ b. b.now) c.in_ok-states.ensures.kept ∙ b2 in
    let t = by_ok (fold _ _) (row_from _ _ _ _ _) _ c.in_ok-scanned.ensures.value in
    let s = states_read _ _ c.args.file.now _ _ _ _ b3 (sym t.1) in
    let start = sym (ap (λ (s : States). s.start) t.2 ∙ states_started _ t.0 c.default.ensures) in
    let b4 = ap (λ b. b.now) c.in_ok-scanned.ensures.bytes ∙ b3 in
    let any = start ∙ flip_false _ c.if-not-scanned.false in
    let x = ap (λ x. count_at x c.pass_rows.new.reader.at 0 1024) (sym b4) ∙ sym c.in_err-moves.ensures.value in
    rw (p.1, p.2, v, l, n, s, any, x)

pub returns-in_err-pass_rows : goal.returns-in_err-pass_rows
unfolding file_of
returns-in_err-pass_rows c =
    let p = err_from_is_err_and c.from_residual-in_err-pass_rows.result c.from_residual-in_err-pass_rows.ensures.1 in
    let v = sym c.in_ok-read_ranged.ensures.value in
    let b1 = ap (λ b. b.now) c.in_ok-read_ranged.ensures.kept in
    let l = lines_read _ _ c.args.file.now _ _ _ b1 c.in_ok-write_rows.ensures.value in
    let b2 = ap (λ b. b.now) c.in_ok-write_rows.ensures.bytes ∙ b1 in
    let n = ap (λ x. count_at x c.write_rows.new.reader.at 1 32) (sym b2) ∙ sym c.in_ok-states.ensures.value in
    let b3 = ap (λ b. b.now) c.in_ok-states.ensures.kept ∙ b2 in
    let t = by_ok (fold _ _) (row_from _ _ _ _ _) _ c.in_ok-scanned.ensures.value in
    let s = states_read _ _ c.args.file.now _ _ _ _ b3 (sym t.1) in
    let start = sym (ap (λ (s : States). s.start) t.2 ∙ states_started _ t.0 c.default.ensures) in
    let b4 = ap (λ b. b.now) c.in_ok-scanned.ensures.bytes ∙ b3 in
    let any = start ∙ flip_false _ c.if-not-scanned.false in
    let m = ap (λ x. count_at x c.pass_rows.new.reader.at 0 1024) (sym b4) ∙ sym c.in_ok-moves.ensures.value in
    let b5 = ap (λ b. b.now) c.in_ok-moves.ensures.kept ∙ b4 in
    let x = moves_read _ c.args.file.now _ _ _ _ _ b5 c.between.ensures (sym (by_err (fold _ _) (row_from _ _ _ _ _) _ c.in_err-pass_rows.ensures.value)) in
    rw (p.1, p.2, v, l, n, s, any, m, x)

pub returns-then-reader-file : goal.returns-then-reader-file
unfolding file_of
returns-then-reader-file c =
    let v = sym c.in_ok-read_ranged.ensures.value in
    let b1 = ap (λ b. b.now) c.in_ok-read_ranged.ensures.kept in
    let l = lines_read _ _ c.args.file.now _ _ _ b1 c.in_ok-write_rows.ensures.value in
    let b2 = ap (λ b. b.now) c.in_ok-write_rows.ensures.bytes ∙ b1 in
    let n = ap (λ x. count_at x c.write_rows.new.reader.at 1 32) (sym b2) ∙ sym c.in_ok-states.ensures.value in
    let b3 = ap (λ b. b.now) c.in_ok-states.ensures.kept ∙ b2 in
    let t = by_ok (fold _ _) (row_from _ _ _ _ _) _ c.in_ok-scanned.ensures.value in
    let s = states_read _ _ c.args.file.now _ _ _ _ b3 (sym t.1) in
    let start = sym (ap (λ (s : States). s.start) t.2 ∙ states_started _ t.0 c.default.ensures) in
    let b4 = ap (λ b. b.now) c.in_ok-scanned.ensures.bytes ∙ b3 in
    let any = start ∙ flip_false _ c.if-not-scanned.false in
    let m = ap (λ x. count_at x c.pass_rows.new.reader.at 0 1024) (sym b4) ∙ sym c.in_ok-moves.ensures.value in
    let b5 = ap (λ b. b.now) c.in_ok-moves.ensures.kept ∙ b4 in
    let u = by_ok (fold _ _) (row_from _ _ _ _ _) _ c.in_ok-pass_rows.ensures.value in
    let w = moves_read _ c.args.file.now _ _ _ _ _ b5 c.between.ensures (sym u.1) in
    let more = lt-ltb _ _ c.if-reader-file.true in
    rw (v, l, n, s, any, m, w, more)

pub returns : goal.returns
unfolding file_of
returns c =
    let v = sym c.in_ok-read_ranged.ensures.value in
    let b1 = ap (λ b. b.now) c.in_ok-read_ranged.ensures.kept in
    let l = lines_read _ _ c.args.file.now _ _ _ b1 c.in_ok-write_rows.ensures.value in
    let b2 = ap (λ b. b.now) c.in_ok-write_rows.ensures.bytes ∙ b1 in
    let n = ap (λ x. count_at x c.write_rows.new.reader.at 1 32) (sym b2) ∙ sym c.in_ok-states.ensures.value in
    let b3 = ap (λ b. b.now) c.in_ok-states.ensures.kept ∙ b2 in
    let t = by_ok (fold _ _) (row_from _ _ _ _ _) _ c.in_ok-scanned.ensures.value in
    let s = states_read _ _ c.args.file.now _ _ _ _ b3 (sym t.1) in
    let start = sym (ap (λ (s : States). s.start) t.2 ∙ states_started _ t.0 c.default.ensures) in
    let b4 = ap (λ b. b.now) c.in_ok-scanned.ensures.bytes ∙ b3 in
    let any = start ∙ flip_false _ c.if-not-scanned.false in
    let m = ap (λ x. count_at x c.pass_rows.new.reader.at 0 1024) (sym b4) ∙ sym c.in_ok-moves.ensures.value in
    let b5 = ap (λ b. b.now) c.in_ok-moves.ensures.kept ∙ b4 in
    let u = by_ok (fold _ _) (row_from _ _ _ _ _) _ c.in_ok-pass_rows.ensures.value in
    let w = moves_read _ c.args.file.now _ _ _ _ _ b5 c.between.ensures (sym u.1) in
    let none = le-ltb _ _ c.if-reader-file.false in
    let states_long = row_length _ _ _ _ _ _ t.1 in
    let moves_long = row_length _ _ _ _ _ _ u.1 in
    rw (v, l, n, s, any, m, w, none, states_long, moves_long)
