use Rattle.std.proofs.Common.{◌≡◌, ◌-◌, ◌≤◌, length}
use Rattle.rulefile.specs.Card.{name_end}
use Rattle.rulefile.proofs.card.name_end.Given as goal

abbrev pub invariant-loop-place : goal.invariant-loop-place
invariant-loop-place l =
    (name_end l.file l.place (l.end - l.place) ≡ name_end l.file l.at l.count) × (l.place ≤ length l.file)
