use Rattle.std.proofs.Common.{rules}
use Rattle.rulefile.proofs.Agree.{of_file, drafted_six, drafted_read, drafted_lines, drafted_states, drafted_moves}
use Rattle.rulefile.proofs.draft.make.make_draft.Goals as goal

pub invariant_of-result : goal.invariant_of-result
invariant_of-result c =
    let t = c.in-Some.ensures.found in record {
      six = drafted_six _ _ _ t.0 t.1 _ t.2;
      read = drafted_read _ _ _ t.0 t.1 _ t.2;
      line_rows = drafted_lines _ _ _ t.0 t.1 _ t.2;
      state_rows = drafted_states _ _ _ t.0 t.1 _ t.2;
      move_rows = drafted_moves _ _ _ t.0 t.1 _ t.2;
    }

pub returns : goal.returns
returns c =
    let t = c.in-Some.ensures.found in
    record {
      good = search rules;
      rule = λ _ _. of_file _ (λ i. (c.type_inv.file i).fits) _ _ _ (drafted_read _ _ _ t.0 t.1 _ t.2) (drafted_lines _ _ _ t.0 t.1 _ t.2)
          (drafted_states _ _ _ t.0 t.1 _ t.2) (drafted_moves _ _ _ t.0 t.1 _ t.2);
      refused = search rules;
    }
