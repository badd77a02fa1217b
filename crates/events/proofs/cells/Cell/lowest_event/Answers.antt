-- The entry has just the events that the cell covers, so its lowest bit is the lowest of them.
use Rattle.events.proofs.CellLaws.{lowest_zeros}
use Rattle.events.proofs.cells.Cell.lowest_event.Goals as goal

pub returns : goal.returns
returns c = lowest_zeros c.args.self.number c.events.result c.events.type_inv c.events.ensures
