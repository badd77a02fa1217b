-- The reader's answers, in the words of the files of expected answers.
use Rattle.std.specs.Prelude.{ℕ, List, ◌++◌, Ok, Err, codes, decimal, Result}
use Rattle.codec.specs.declared.fault.Report.{Report}
use Rattle.codec.specs.Text.{layer_text}
use Rattle.rulefile.specs.declared.fault.Refusal.{Refusal}
use Rattle.rulefile.specs.declared.fault.Refusal.TheVariants as refusal
use Rattle.rulefile.specs.declared.record.Counts.{Counts}
use Rattle.rulefile.specs.Fault.{file_report}

-- refused 11 0 file
abbrev pub report_text : Report → List ℕ
report_text r = codes "refused " ++ (decimal r.number ++ (codes " " ++ (decimal r.place ++ (codes " " ++ layer_text r.layer))))

-- ok 4 7, or a refusal
abbrev pub answer_text : Result Counts Refusal → List ℕ
answer_text (Ok n) = codes "ok " ++ (decimal n.states ++ (codes " " ++ decimal n.moves))
answer_text (Err (refusal.File fault)) = report_text (file_report fault)
answer_text (Err refusal.FewStateRecords) = codes "refused 21"
answer_text (Err refusal.FewMoveRecords) = codes "refused 22"
