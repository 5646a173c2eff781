use Rattle.std.proofs.Common.{rules, ◌<◌, ◌^◌}
use Rattle.p3_metric.proofs.StepLemmas.{number_evaluated}
use Rattle.p3_metric.proofs.evaluate.Evaluator.number.Goals as goal

pub returns-clause-form : goal.returns-clause-form
returns-clause-form c =
    let digits : c.args.numeral.digits < 2 ^ 64 = search rules in
    number_evaluated c.args.self.now.task.now c.args.numeral c.constant.result c.constant.ensures digits c.requires
