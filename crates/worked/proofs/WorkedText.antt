-- What is printed of the worked rule's file and its log, and that no other text is.
use Rattle.std.proofs.Common.{◌≡◌, ℕ, List, [], ◌∷◌, Some, Ok, Result, sym, refl, ap, ◌∙◌, subst, lit≤}
use Rattle.std.specs.Fmt.{digits}
use Rattle.std.specs.List.{AllByRecursion}
use Rattle.codec.specs.declared.fault.CardFault.{CardFault}
use Rattle.rules.specs.automata.Rules.{Rule, Event}
use Rattle.rules.specs.trees.Costs.{expected}
use Rattle.rules.proofs.watch.PromiseOne.{promise_one}
use Rattle.rulefile.specs.declared.fault.FileFault.{FileFault}
use Rattle.rulefile.specs.File.{Contents, file_of}
use Rattle.sources.specs.PlainLogs.{log_from, checked_log}
use Rattle.listing.specs.Prints.{takes_text, Listed, LogPrints, RulePrints, Prints}
use Rattle.worked.specs.Cases.{ReadAs, worked, worked_bytes, worked_trees, worked_costs, worked_log, worked_text}
use Rattle.worked.proofs.WorkedFiles.{worked_read}
use Rattle.worked.proofs.WorkedRule.{worked_answers, worked_calls}

-- what is printed of a good file and a good log is the listing of its rule over the log
module _ (f log : List ℕ) (rule : Rule) (text : List ℕ) (good : checked_log log ≡ Ok tt) where
  listed_printed : ReadAs f rule → Listed rule log text → RulePrints f (Some log) (file_of f) text
  listed_printed (c, file, is-rule) listed =
      subst (λ (r : Result Contents FileFault). RulePrints f (Some log) r text) (sym file)
      (subst (λ (r : Rule). LogPrints r log (checked_log log) text) (sym is-rule)
      (subst (λ (r : Result (Unit {0}) CardFault). LogPrints rule log r text) (sym good) listed))

  printed_listed : ReadAs f rule → RulePrints f (Some log) (file_of f) text → Listed rule log text
  printed_listed (c, file, is-rule) printed =
      subst (λ (r : Result (Unit {0}) CardFault). LogPrints rule log r text) good
      (subst (λ (r : Rule). LogPrints r log (checked_log log) text) is-rule
      (subst (λ (r : Result Contents FileFault). RulePrints f (Some log) r text) file printed))

good_log : checked_log worked_log ≡ Ok tt
unfolding log_from
good_log = refl

log_comes : AllByRecursion (Event worked) worked_log
log_comes = (lit≤ tt, (lit≤ tt, (lit≤ tt, (lit≤ tt, tt))))

worked_lines : takes_text 0 worked_answers ≡ worked_text
unfolding takes_text digits
worked_lines = refl {a = worked_text}

worked_listed : Listed worked worked_log worked_text
worked_listed = record {
  trees = worked_trees;
  costs = worked_costs;
  answers = worked_answers;
  left = 1 ∷ [];
  comes = log_comes;
  promise = worked_calls;
  lines = sym worked_lines;
}

pub worked_printed : Prints (Some worked_bytes) (Some worked_log) worked_text
worked_printed = listed_printed worked_bytes worked_log worked worked_text good_log worked_read worked_listed

pub worked_printed_alone : (text : List ℕ) → Prints (Some worked_bytes) (Some worked_log) text → text ≡ worked_text
worked_printed_alone text printed =
    let listed = printed_listed worked_bytes worked_log worked text good_log worked_read printed in
    let (_, _, same, _) = promise_one expected worked listed.trees worked_trees listed.costs worked_costs _ worked_log listed.answers worked_answers listed.left (1 ∷ []) log_comes listed.promise worked_calls in
    listed.lines ∙ (ap (takes_text 0) same ∙ worked_lines)
