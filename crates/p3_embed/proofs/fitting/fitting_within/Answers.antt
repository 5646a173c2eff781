use Rattle.std.proofs.Common.{None}
use Rattle.p3_embed.proofs.FitLaws.{none_within}
use Rattle.p3_embed.proofs.fitting.fitting_within.Goals as goal

pub loop-place-preserved : goal.loop-place-preserved
loop-place-preserved c =
    none_within c.args.actions.now.counts.items c.args.target.now c.args.state.now None c.args.from c.loop-place.place c.loop-place.invariant (c.other_fits.ensures.none c.if-other_fits.false)

pub returns-then-other_fits-clause-some : goal.returns-then-other_fits-clause-some
returns-then-other_fits-clause-some c = c.other_fits.ensures.fits c.if-other_fits.true
