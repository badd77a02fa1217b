-- The program's output, from the bytes of its two files. None stands for a file that is missing, cannot be read or is too long.
use Rattle.std.specs.Prelude.{ℕ, List, ◌++◌, length, Some, None, Ok, Err, Option, Result}
use Rattle.codec.specs.declared.fault.CardFault.{CardFault}
use Rattle.codec.specs.declared.fault.Report.{Report}
use Rattle.codec.specs.Fault.{card_report}
use Rattle.rulefile.specs.declared.fault.FileFault.{FileFault}
use Rattle.rulefile.specs.Fault.{file_report}
use Rattle.rulefile.specs.File.{Contents, file_of}
use Rattle.rulefile.specs.Rule.{Rule, rule_of}
use Rattle.rulefile.specs.Draft.{cards_of}
use Rattle.sources.specs.PlainLogs.{checked_log}
use Rattle.listing.specs.Text.{cards_text, events_text, refusal_text}

-- 24: the file is missing, cannot be read or is too long
abbrev pub unreadable_text : List ℕ
unreadable_text = refusal_text 24 None

-- a fault's number and place
abbrev pub fault_text : Report → List ℕ
fault_text r = refusal_text r.number (Some r.place)

-- a log is looked at once the rule is good: its leftmost fault, or the rule's cards and how many events the log has
abbrev pub log_text : Rule → List ℕ → Result (Unit {0}) CardFault → List ℕ
log_text rule log (Err fault) = fault_text (card_report fault)
log_text rule log (Ok _) = cards_text 0 (cards_of rule) ++ events_text (length log)

abbrev pub with_log : Rule → Option (List ℕ) → List ℕ
with_log rule None = unreadable_text
with_log rule (Some log) = log_text rule log (checked_log log)

-- the rule file's leftmost fault, or what comes of its rule and the log
abbrev pub rule_text : List ℕ → Option (List ℕ) → Result Contents FileFault → List ℕ
rule_text rule log (Err fault) = fault_text (file_report fault)
rule_text rule log (Ok c) = with_log (rule_of rule c) log

abbrev pub output_text : Option (List ℕ) → Option (List ℕ) → List ℕ
output_text None log = unreadable_text
output_text (Some rule) log = rule_text rule log (file_of rule)
