-- The wiring itself, or the straight one.
use Rattle.sources.proofs.Rewiring.{fitted_means}
use Rattle.sources.proofs.wiring.Wiring.over.Goals as goal

pub returns-clause-means : goal.returns-clause-means
returns-clause-means g c =
    fitted_means c.args.entries c.args.turned (g.S.LineSource.events c.args.below) (g.S.LineSource.small c.args.below) c.fitted-turned.result.0 c.fitted-turned.result.1
    c.fitted-turned.ensures.fits c.fitted-turned.ensures.other
