-- The laws, each by its lemma.
use Rattle.std.proofs.Common.{refl}
use Rattle.sources.specs.ChangeLogs.{pairs_within}
use Rattle.sources.proofs.Flips.{has-xor, flips_cancel}
use Rattle.sources.proofs.Rewiring.{rewired-line, rewired_lt, straight_events, cancel_events, compose_events, compose_fits}
use Rattle.sources.proofs.laws_stand.Goals as goal

pub returns : goal.returns
unfolding pairs_within
returns c = record {
  flipped = has-xor;
  flips = flips_cancel;
  worked = refl;
  rewired = λ entries turned event. (rewired_lt entries turned event, rewired-line entries turned event);
  turns = cancel_events;
  straight = straight_events;
  composed = λ upper lower above below f g.
      (compose_fits upper above lower below f g, compose_events upper above lower below f.six f.named);
}
