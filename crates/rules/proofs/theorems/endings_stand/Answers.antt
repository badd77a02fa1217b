-- Each theorem, by its proof.
use Rattle.rules.proofs.automata.RunLaws.{ending_reaches, reaches_ending, safe_ending, no_ending_more}
use Rattle.rules.proofs.theorems.endings_stand.Goals as goal

pub returns : goal.returns
returns c = record {
  live = λ rule es. (ending_reaches rule es, reaches_ending rule es);
  safe = safe_ending;
  none = no_ending_more;
}
