-- The loop over the moves.
use Rattle.std.proofs.Common.{◌≡◌, ℕ, ◌<◌, length, get_or}
use Rattle.pruning.proofs.LoopLaws.{Gathered}
use Rattle.pruning.proofs.SelectLaws.{Selects}
use Rattle.pruning.proofs.Pruning.selected_sets.Given as goal

abbrev pub invariant-loop-m : goal.invariant-loop-m
invariant-loop-m l = record {
  long : length l.sets ≡ 64;
  are : (e : ℕ) → e < 64 → Gathered 32 (Selects l.self.live l.self.safe l.state e) l.m-items l.m-index (get_or l.sets e 0);
}
