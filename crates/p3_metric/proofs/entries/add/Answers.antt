use Rattle.std.proofs.Common.{rules, ◌∙◌, ap}
use mir.Syntax.{w128}
use mir.Val.{SFits}
use Rattle.p3_metric.specs.Entries.{changed, number_at}
use Rattle.p3_task.specs.Refusals.Metric.{is_within}
use Rattle.p3_task.specs.Sides.{weight_bound}
use Rattle.p3_metric.proofs.EntryLemmas.{number_at_updated, sum_fits}
use Rattle.p3_metric.proofs.entries.add.Goals as goal

pub returns-clause-sum : goal.returns-clause-sum
returns-clause-sum c = λ other.
    let f : SFits w128 c.number_of.result = search rules in
    number_at_updated _ _ c.args.name _ c.in_ok-insert.ensures.updates other
    ∙ ap (λ v. changed (number_at c.args.entries.now) c.args.name.now v other) (sum_fits c.number_of.result c.args.number _ c.number_of.ensures f c.ranges.number c.requires.fits)

pub returns-clause-within : goal.returns-clause-within
returns-clause-within c =
    let f : SFits w128 c.number_of.result = search rules in
    c.is_within_bound.ensures ∙ ap (λ v. is_within weight_bound v) (sum_fits c.number_of.result c.args.number _ c.number_of.ensures f c.ranges.number c.requires.fits)
