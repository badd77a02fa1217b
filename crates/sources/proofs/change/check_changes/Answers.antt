-- Each turn reads one pair.
use Rattle.std.proofs.Common.{◌≡◌, Err, sym, ap, ◌∙◌, arith}
use Rattle.std.proofs.lemmas.Result.{err_from_is_err_and}
use Rattle.sources.specs.ChangeLogs.{checked_pairs, pair_at, pairs_from}
use Rattle.sources.proofs.ChangeBytes.{check_end, check_fault, check_more, changes_exact, changes_leftmost}
use Rattle.sources.proofs.change.check_changes.Goals as goal

pub returns-in_err-read_pair : goal.returns-in_err-read_pair
returns-in_err-read_pair c =
    let f = c.args.bytes.now in
    let p = err_from_is_err_and c.from_residual.result c.from_residual.ensures.1 in
    let here = ap (λ b. pair_at b.now c.loop-reader.reader.at) (sym c.loop-reader.invariant.1) ∙ sym c.in_err-read_pair.ensures.value in
    let told = sym (check_fault f c.loop-reader.reader.at c.in_err-read_pair.field-0.0 (omega arith) (sym here)) ∙ c.loop-reader.invariant.0 in
    let e : c.from_residual.result ≡ checked_pairs (pairs_from f 0) = p.1 ∙ (ap Err p.2 ∙ told) in
    record { fault = e; exact = changes_exact f _ (λ i. (c.type_inv.bytes i).fits) e; leftmost = changes_leftmost f _ (λ i. (c.type_inv.bytes i).fits) e }

pub loop-reader-preserved : goal.loop-reader-preserved
loop-reader-preserved c =
    let here = ap (λ b. pair_at b.now c.loop-reader.reader.at) (sym c.loop-reader.invariant.1) ∙ sym c.in_ok-read_pair.ensures.value in (
      sym (check_more c.args.bytes.now c.loop-reader.reader.at (record { value = c.in_ok-read_pair.field-0; next = c.read_pair.new.reader.at }) (sym here)) ∙ c.loop-reader.invariant.0,
      c.in_ok-read_pair.ensures.kept ∙ c.loop-reader.invariant.1,
    )

pub returns : goal.returns
returns c =
    let f = c.args.bytes.now in
    let e = sym (check_end f c.loop-reader.reader.at (omega arith)) ∙ c.loop-reader.invariant.0 in
    record { fault = e; exact = changes_exact f _ (λ i. (c.type_inv.bytes i).fits) e; leftmost = changes_leftmost f _ (λ i. (c.type_inv.bytes i).fits) e }
