use Rattle.std.proofs.Common.{◌∙◌, ap}
use Rattle.std.specs.Prelude.{option_map}
use Rattle.std.proofs.lemmas.Result.{IfOk-weaker}
use Rattle.p3_base.specs.declared.refusal.Code.TheVariants.{NegativeWeight}
use Rattle.p3_task.specs.Refusals.Places.{refusal_at}
use Rattle.p3_metric.specs.declared.spot.Spot.{Spot}
use Rattle.p3_metric.proofs.WeightLaws.{negative_is}
use Rattle.p3_metric.proofs.evaluate.Evaluator.negative.Goals as goal

pub returns-in-Some : goal.returns-in-Some
returns-in-Some c =
    let self = c.args.self.now in
    IfOk-weaker c.negative_refusal.result _ _
    (λ found is. is ∙ ap (option_map (λ (spot : Spot). refusal_at NegativeWeight self.role spot.at spot.len)) c.first_negative-spot.ensures
    ∙ negative_is self.task.now c.requires.linear c.args.form.now c.requires.form.is_form self.side c.in-Some.metric c.in-Some.is self.role self.sided)
    c.negative_refusal.ensures
