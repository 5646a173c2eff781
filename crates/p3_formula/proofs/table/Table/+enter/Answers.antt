use Rattle.std.proofs.Common.{◌∙◌, ◌<◌, All, ap, sym, subst, map, length}
use Rattle.p3_formula.specs.Nodes.{form_of}
use Rattle.p3_formula.proofs.NodeLemmas.{grows-trans, more-below, more-stand, take-next}
use Rattle.p3_formula.proofs.table.Table.+enter.Goals as goal

pub all_of-loop-form-preserved : goal.all_of-loop-form-preserved
all_of-loop-form-preserved t c =
    let old = c.loop-form.self in
    let new = c.of.new.self in
    let numbers = c.loop-form.numbers in
    let grows = c.of.ensures.grows in record {
      grows = grows-trans _ _ _ c.loop-form.invariant.grows grows;
      below = subst (All (λ number. number < length new)) (sym c.in_ok-push.ensures.ok) (more-below old new numbers c.in_ok-of.field-0 grows c.loop-form.invariant.below c.in_ok-of.ensures.within);
      stands = ap (map (form_of new)) c.in_ok-push.ensures.ok ∙ more-stand old new numbers c.in_ok-of.field-0 _ _ grows c.loop-form.invariant.below c.loop-form.invariant.stands c.in_ok-of.ensures.stands ∙ take-next c.args.forms.now c.loop-form.form-index _ _ c.loop-form-test.true c.form-item.is;
    }
