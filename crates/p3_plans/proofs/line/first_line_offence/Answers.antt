use Rattle.std.proofs.Common.{◌∙◌, Some, None}
use Rattle.p3_plans.proofs.LineLemmas.{offence_is}
use Rattle.p3_plans.proofs.line.first_line_offence.Goals as goal

pub returns-in-Some : goal.returns-in-Some
returns-in-Some c =
    c.earlier.ensures
    ∙ offence_is c.args.line.now c.first_plan_offence-offence.result (Some c.in-Some.place) c.first_plan_offence-offence.ensures c.in-Some.ensures

pub returns-in-None : goal.returns-in-None
returns-in-None c = offence_is c.args.line.now c.first_plan_offence-offence.result None c.first_plan_offence-offence.ensures c.in-None.ensures
