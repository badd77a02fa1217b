-- What each fault of a rule file tells, and the number and place of each refusal of its check.
use Rattle.std.specs.Prelude.{ℕ, Some, None, Option}
use Rattle.codec.specs.declared.fault.Layer.TheVariants as layer
use Rattle.codec.specs.declared.fault.Report.{Report}
use Rattle.codec.specs.Fault.{number_report, card_report}
use Rattle.rulefile.specs.declared.fault.FileFault.{FileFault}
use Rattle.rulefile.specs.declared.fault.FileFault.TheVariants as file
use Rattle.rulefile.specs.declared.fault.Refusal.{Refusal}
use Rattle.rulefile.specs.declared.fault.Refusal.TheVariants as refusal

-- a fault of the file's own layer
abbrev pub in_file : ℕ → ℕ → Report
in_file number place = record { number = number; place = place; layer = layer.File }

-- faults of cards and numbers are told as they are; 11: the bytes end; 13: version or count outside its range; 15: a move not above the one
-- before; 16: bytes after the last move; 17: no start state
abbrev pub file_report : FileFault → Report
file_report (file.Card fault) = card_report fault
file_report (file.Number fault) = number_report fault
file_report (file.Short place) = in_file 11 place
file_report (file.Range place) = in_file 13 place
file_report (file.Order place) = in_file 15 place
file_report (file.Trailing place) = in_file 16 place
file_report (file.NoStart place) = in_file 17 place

-- 21: fewer than 32 state records; 22: fewer than 1,024 move records; else the fault's number
abbrev pub refusal_number : Refusal → ℕ
refusal_number refusal.FewStateRecords = 21
refusal_number refusal.FewMoveRecords = 22
refusal_number (refusal.File fault) = (file_report fault).number

-- the place of a fault; the other refusals have none
abbrev pub refusal_place : Refusal → Option ℕ
refusal_place refusal.FewStateRecords = None
refusal_place refusal.FewMoveRecords = None
refusal_place (refusal.File fault) = Some (file_report fault).place
