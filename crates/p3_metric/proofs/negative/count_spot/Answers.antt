use Rattle.std.proofs.Common.{rules, ◌∙◌, ap, sym, pos, length}
use Rattle.std.specs.Prelude.{int_lt}
use Rattle.std.proofs.lemmas.Int.{to_z-of_z}
use mir.Syntax.{w128}
use mir.Val.{SFits}
use Rattle.p3_task.specs.Metrics.{signed}
use Rattle.p3_metric.specs.Entries.{number_at}
use Rattle.p3_metric.proofs.SignLaws.{negative-Violated, spot_if}
use Rattle.p3_metric.proofs.negative.count_spot.Goals as goal

pub returns : goal.returns
returns c =
    let fits : SFits w128 c.number_of.result = search rules in
    let name = c.args.name.now in
    c.spot_where.ensures
    ∙ (λ i. spot_if ((c.is_negative-negative.ensures ∙ ap (λ z. int_lt (signed c.args.direction z) (pos 0)) (to_z-of_z w128 c.number_of.result fits ∙ c.number_of.ensures ∙ ap (number_at c.args.form.now.counts) c.bytes.ensures.bytes)) i) name.at (length (c.bytes-2.ensures.bytes i)))
    ∙ sym (negative-Violated c.args.form.now c.args.direction name)
