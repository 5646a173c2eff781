use Rattle.std.proofs.Common.{◌<◌, ◌∙◌, None, ap, arith, length, not}
use Rattle.p3_embed.proofs.FitLaws.{counts_none, counts_some, fits_here}
use Rattle.p3_embed.proofs.fitting.other_fits.Goals as goal

pub returns-then-is_none-clause-fits : goal.returns-then-is_none-clause-fits
returns-then-is_none-clause-fits c =
    let counts = c.args.actions.now.counts.items in
    let all = c.requires.indexed.all in
    let below : c.args.place < length counts = omega arith in
    fits_here counts c.args.target.now c.args.state.now c.args.place c.fits.result c.fits.ensures c.requires.place None
    (counts_none counts c.args.place below c.index.result.now c.index.ensures (c.is_none.ensures ∙ ap not c.if-is_none.true))

pub returns-else-is_none-clause-none : goal.returns-else-is_none-clause-none
returns-else-is_none-clause-none c = λ e action at so.
    let counts = c.args.actions.now.counts.items in
    let all = c.requires.indexed.all in
    let below : c.args.place < length counts = omega arith in
    absurd (counts_some counts c.args.place below c.index.result.now c.index.ensures (c.is_none.ensures ∙ ap not c.if-is_none.false) so)
