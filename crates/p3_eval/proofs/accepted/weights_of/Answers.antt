use Rattle.std.proofs.Common.{◌∙◌, sym}
use Rattle.std.proofs.lemmas.Result.{err_from_is_err_and}
use Rattle.p3_task.specs.Refusals.Counts.{size_refusals}
use Rattle.p3_task.specs.Refusals.Places.{first_some}
use Rattle.p3_ground.specs.declared.error.GroundFail.TheVariants.{Refused}
use Rattle.p3_eval.proofs.RefusalLaws.{actions_left, metric_fails, sizes_fail, well_formed_from}
use Rattle.p3_eval.proofs.accepted.weights_of.Goals as goal

pub returns-in_err-weights-clause-refused : goal.returns-in_err-weights-clause-refused
returns-in_err-weights-clause-refused c =
    let checked = c.args.task.now in
    let p = err_from_is_err_and c.from_residual.result c.from_residual.ensures.1 in
    rw (p.1, p.2) (metric_fails checked.side checked.task (well_formed_from checked.task checked.well_formed) c.in_err-weights.field-0.0 c.in_err-weights.ensures.refused)

pub returns-in-Some-clause-refused : goal.returns-in-Some-clause-refused
returns-in-Some-clause-refused c =
    let checked = c.args.task.now in
    sizes_fail checked.side checked.task (well_formed_from checked.task checked.well_formed) c.in_ok-weights.ensures.accepted (Refused c.in-Some.refusal)
    ((λ i. first_some (size_refusals (sym c.side.ensures i) (sym c.task.ensures.task i))) ∙ sym c.in_ok-refusal.ensures ∙ c.in-Some.is)

pub returns-in-None-clause-accepted : goal.returns-in-None-clause-accepted
returns-in-None-clause-accepted c =
    let checked = c.args.task.now in
    actions_left checked.side checked.task (well_formed_from checked.task checked.well_formed) c.in_ok-weights.ensures.accepted
    ((λ i. first_some (size_refusals (sym c.side.ensures i) (sym c.task.ensures.task i))) ∙ sym c.in_ok-refusal.ensures ∙ c.in_default.is)
    ∙ sym c.bounds.ensures ∙ c.in-None.is

pub returns-in-Some-bounds-clause-refused : goal.returns-in-Some-bounds-clause-refused
returns-in-Some-bounds-clause-refused c =
    let checked = c.args.task.now in
    actions_left checked.side checked.task (well_formed_from checked.task checked.well_formed) c.in_ok-weights.ensures.accepted
    ((λ i. first_some (size_refusals (sym c.side.ensures i) (sym c.task.ensures.task i))) ∙ sym c.in_ok-refusal.ensures ∙ c.in_default.is)
    ∙ sym c.bounds.ensures ∙ c.in-Some-bounds.is
