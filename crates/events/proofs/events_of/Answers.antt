-- A number that is no cell covers nothing.
use Rattle.std.proofs.Common.{Bool, ◌&&◌, sym, ap, ◌∙◌}
use Rattle.std.proofs.lemmas.Bool.{le-ltb}
use Rattle.events.specs.Cells.{covers}
use Rattle.events.proofs.SetLaws.{has_none}
use Rattle.events.proofs.events_of.Goals as goal

pub returns-in-None : goal.returns-in-None
returns-in-None c = record { covered = λ e l. has_none e ∙ sym (ap (λ (b : Bool). b && covers c.args.cell e) (le-ltb c.args.cell 729 c.in-None.ensures)) }
