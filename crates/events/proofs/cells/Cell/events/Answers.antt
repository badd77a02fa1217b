-- The table in src/ is the computed one, entry by entry.
use Rattle.events.proofs.TableRule.{entries, entry_rule}
use Rattle.events.proofs.cells.Cell.events.Goals as goal

pub returns : goal.returns
unfolding entries
returns c = entry_rule c.args.self.number c.args.self.low
