use Rattle.std.proofs.Common.{◌∙◌, sym, ap}
use Rattle.std.specs.Prelude.{flat_map}
use Rattle.p3_expansion.specs.Statics.{changed_predicates, marked}
use Rattle.p3_expansion.proofs.StaticLemmas.{predicates-Add, predicates-Del, predicates-All, predicates-Each, predicates-If, predicates-Cost}
use Rattle.p3_expansion.proofs.changed.+marks.Goals as goal

pub mark_effect-returns-in-Add : goal.mark_effect-returns-in-Add
mark_effect-returns-in-Add t c = c.mark.ensures ∙ ap (marked c.args.marks.now) (sym (ap changed_predicates c.in-Add.is ∙ predicates-Add c.in-Add.predicate c.in-Add.args))

pub mark_effect-returns-in-Del : goal.mark_effect-returns-in-Del
mark_effect-returns-in-Del t c = c.mark-in-Del.ensures ∙ ap (marked c.args.marks.now) (sym (ap changed_predicates c.in-Del.is ∙ predicates-Del c.in-Del.predicate c.in-Del.args))

pub mark_effect-returns-in-All : goal.mark_effect-returns-in-All
mark_effect-returns-in-All t c =
    c.mark_parts.ensures ∙ ap (marked c.args.marks.now) (ap (flat_map changed_predicates) c.items.ensures ∙ sym (ap changed_predicates c.in-All.is ∙ predicates-All c.in-All.parts))

pub mark_effect-returns-in-Each : goal.mark_effect-returns-in-Each
mark_effect-returns-in-Each t c =
    c.mark_effect.ensures ∙ ap (marked c.args.marks.now) (ap changed_predicates c.get.ensures ∙ sym (ap changed_predicates c.in-Each.is ∙ predicates-Each c.in-Each.field-0 c.in-Each.body))

pub mark_effect-returns-in-If : goal.mark_effect-returns-in-If
mark_effect-returns-in-If t c =
    c.mark_effect-in-If.ensures ∙ ap (marked c.args.marks.now) (ap changed_predicates c.get-in-If.ensures ∙ sym (ap changed_predicates c.in-If.is ∙ predicates-If c.in-If.field-0 c.in-If.body))

pub mark_effect-returns-in-Cost : goal.mark_effect-returns-in-Cost
mark_effect-returns-in-Cost t c = ap (marked c.args.marks.now) (sym (ap changed_predicates c.in-Cost.is ∙ predicates-Cost c.in-Cost.field-0))
