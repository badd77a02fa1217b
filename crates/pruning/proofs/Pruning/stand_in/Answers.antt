-- Where no state is safe, the target is not.
use Rattle.std.proofs.Common.{Bool, cond, sym, ap}
use lib.Count.{count_trailing_zeros}
use Rattle.pruning.proofs.SelectLaws.{first_none}
use Rattle.pruning.proofs.Pruning.stand_in.Goals as goal

pub returns-in_default-2 : goal.returns-in_default-2
returns-in_default-2 c = sym (ap (λ (b : Bool). cond b (count_trailing_zeros 32 c.args.self.now.safe) c.args.to) (first_none c.args.self.now.safe c.args.to _ c.first.ensures c.in_default.is))
