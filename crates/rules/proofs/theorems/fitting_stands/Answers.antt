-- Each theorem, by its proof.
use Rattle.rules.proofs.trees.BestLaws.{best_fitted}
use Rattle.rules.proofs.trees.MeasureLaws.{expected_lawful, worst_lawful}
use Rattle.rules.proofs.trees.MeanCost.{mean_trillionfold}
use Rattle.rules.proofs.watch.PromiseOne.{fitted_one}
use Rattle.rules.proofs.theorems.fitting_stands.Goals as goal

pub returns : goal.returns
returns c = record { best = best_fitted; determined = fitted_one; lawful = (expected_lawful, worst_lawful); mean = mean_trillionfold }
