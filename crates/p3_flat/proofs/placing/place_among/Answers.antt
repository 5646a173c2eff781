use Rattle.std.proofs.Common.{◌∙◌, sym}
use Rattle.p3_flat.proofs.PlacingLemmas.{found_here, not_yet, same_by}
use Rattle.p3_flat.proofs.placing.place_among.Goals as goal

pub returns-then-same_form : goal.returns-then-same_form
returns-then-same_form c = found_here c.args.forms.now c.args.form.now c.index-forms-place.result c.loop-place.place c.loop-place-test.true c.index-forms-place.is (c.same_form.ensures.0 c.if-same_form.true)

pub loop-place-preserved : goal.loop-place-preserved
loop-place-preserved c =
    not_yet c.args.forms.now c.args.form.now c.index-forms-place.result c.loop-place.place c.loop-place-test.true c.index-forms-place.is c.loop-place.invariant
    (sym (same_by c.index-forms-place.result c.args.form.now c.same_form.result c.same_form.ensures) ∙ c.if-same_form.false)
