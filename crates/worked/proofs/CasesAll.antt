-- All worked cases, by their proofs.
use Rattle.std.proofs.Common.{refl}
use Rattle.codec.specs.declared.fault.NumberFault.TheVariants.{Short, Form}
use Rattle.events.proofs.FourCells.{four_cells}
use Rattle.worked.specs.Cases.{WorkedCases}
use Rattle.worked.proofs.SmallRules.{clearing_shows, staying_shows, hopeless_shows, wavering_shows}
use Rattle.worked.proofs.WorkedFiles.{worked_read, clearing_read, staying_read, hopeless_read, wavering_read}
use Rattle.worked.proofs.WorkedRule.{worked_fitted, worst_fitted, worked_rehearsal, worked_refusal, worked_rehearsals}
use Rattle.worked.proofs.WorkedText.{worked_printed, worked_printed_alone}

pub worked_cases : WorkedCases
worked_cases = record {
  cells = four_cells;
  number_read = refl;
  number_long = (Form 0, refl, refl);
  number_short = (Short 1, refl, refl);
  rule_is_read = worked_read;
  by_expected = worked_fitted;
  twenty_nodes = refl;
  first_nodes = refl;
  first_cost = refl;
  by_worst = worst_fitted;
  printed = worked_printed;
  printed_alone = worked_printed_alone;
  rehearsed = worked_rehearsal;
  rehearsal_refused = worked_refusal;
  refusal_number = refl;
  refusal_index = refl;
  rehearsals = worked_rehearsals;
  clearing_read = clearing_read;
  clearing_shows = clearing_shows;
  staying_read = staying_read;
  staying_shows = staying_shows;
  hopeless_read = hopeless_read;
  hopeless_shows = hopeless_shows;
  wavering_read = wavering_read;
  wavering_shows = wavering_shows;
}
