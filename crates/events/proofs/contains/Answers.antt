-- A number of 64 bits has no member above 63.
use Rattle.std.proofs.Common.{sym, ◌∙◌, arith, rules, le-ltb}
use Rattle.events.proofs.SetLaws.{has_above}
use Rattle.events.proofs.contains.Goals as goal

pub returns-else-member-lt-WIDTH : goal.returns-else-member-lt-WIDTH
returns-else-member-lt-WIDTH c =
    le-ltb c.args.member 64 (omega arith) ∙ sym (has_above 64 c.args.set c.args.member (search rules) (omega arith))
