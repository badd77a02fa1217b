-- Each theorem, by its proof.
use Rattle.rules.proofs.watch.PromiseOne.{promise_one}
use Rattle.rules.proofs.watch.PromiseSome.{promise_some}
use Rattle.rules.proofs.theorems.promises_stand.Goals as goal

pub returns : goal.returns
returns c = record { determined = promise_one; possible = promise_some }
