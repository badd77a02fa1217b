-- The place is on the way down from the top, and its tree is smaller at every turn.
use Rattle.std.proofs.Common.{◌≡◌, ◌<◌, length}
use Rattle.rules.specs.trees.Layouts.{size_of}
use Rattle.fitting.specs.Reading.{tree_at}
use Rattle.watch.specs.Polling.{head_of}
use Rattle.watch.proofs.PollLaws.{Way}
use Rattle.watch.proofs.polling.Polls.descend.Given as goal

abbrev pub invariant-loop-at : goal.invariant-loop-at
invariant-loop-at g l =
    (l.at < length l.nodes)
    × Way l.nodes (head_of (g.S.LineSource.events l.initial.self.source.now)) l.top l.initial.self.polled l.at l.self.polled
    × (l.self.source.now ≡ l.initial.self.source.now)

abbrev pub decreases-loop-at : goal.decreases-loop-at
decreases-loop-at g l = size_of (tree_at 7 l.nodes l.at)
