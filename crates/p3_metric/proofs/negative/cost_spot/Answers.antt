use Rattle.std.proofs.Common.{rules, ◌∙◌, ap, sym, pos}
use Rattle.std.specs.Prelude.{int_lt}
use Rattle.std.proofs.lemmas.Int.{to_z-of_z}
use mir.Syntax.{w128}
use mir.Val.{SFits}
use Rattle.p3_task.specs.Metrics.{signed}
use Rattle.p3_metric.proofs.SignLaws.{negative-TotalCost, spot_if}
use Rattle.p3_metric.proofs.negative.cost_spot.Goals as goal

pub returns : goal.returns
returns c =
    let fits : SFits w128 c.args.form.now.cost = search rules in
    c.spot_where.ensures
    ∙ ap (λ t. spot_if t c.args.at 10) (c.is_negative.ensures ∙ ap (λ z. int_lt (signed c.args.direction z) (pos 0)) (to_z-of_z w128 c.args.form.now.cost fits))
    ∙ sym (negative-TotalCost c.args.form.now c.args.direction c.args.at)
