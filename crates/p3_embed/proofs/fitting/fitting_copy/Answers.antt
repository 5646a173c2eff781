use Rattle.std.proofs.Common.{◌∙◌, arith, ap, Some}
use Rattle.std.specs.List.{filter}
use Rattle.p3_embed.specs.Actions.{is_of}
use Rattle.p3_embed.proofs.FitLaws.{copy_at, copy_within, fits_here, none_at_all, none_so_far}
use Rattle.p3_embed.proofs.fitting.fitting_copy.Goals as goal

pub fits-requires-clause-place : goal.fits-requires-clause-place
fits-requires-clause-place c =
    copy_within c.args.target.now c.args.actions.now c.requires.indexed c.args.state.now c.args.number c.copies_with-copy-items.result.now
    (c.copies_with-copy-items.ensures ∙ ap (filter (is_of c.args.number)) c.as_slice.ensures.value) c.loop-copy.copy-index c.loop-copy-test.true _

pub returns-then-fits-clause-some : goal.returns-then-fits-clause-some
returns-then-fits-clause-some c =
    let are = c.copies_with-copy-items.ensures ∙ ap (filter (is_of c.args.number)) c.as_slice.ensures.value in
    fits_here c.args.actions.now.counts.items c.args.target.now c.args.state.now _ c.fits.result c.fits.ensures
    (copy_within c.args.target.now c.args.actions.now c.requires.indexed c.args.state.now c.args.number c.copies_with-copy-items.result.now are c.loop-copy.copy-index c.loop-copy-test.true _)
    (Some c.args.number)
    (copy_at c.args.target.now c.args.actions.now c.requires.indexed c.args.state.now c.args.number c.copies_with-copy-items.result.now are c.loop-copy.copy-index c.loop-copy-test.true _)
    c.if-fits.true

pub loop-copy-preserved : goal.loop-copy-preserved
loop-copy-preserved c =
    let are = c.copies_with-copy-items.ensures ∙ ap (filter (is_of c.args.number)) c.as_slice.ensures.value in
    none_so_far c.args.target.now c.args.actions.now c.requires.indexed c.args.state.now c.args.number c.copies_with-copy-items.result.now are c.loop-copy.copy-index c.loop-copy-test.true _
    c.fits.result c.fits.ensures c.if-fits.false c.loop-copy.invariant

pub returns-clause-none : goal.returns-clause-none
returns-clause-none c =
    let are = c.copies_with-copy-items.ensures ∙ ap (filter (is_of c.args.number)) c.as_slice.ensures.value in
    none_at_all c.args.target.now c.args.actions.now c.requires.indexed c.args.state.now c.args.number c.copies_with-copy-items.result.now are
    (λ k other action low. c.loop-copy.invariant k other action (omega (arith, low)))
