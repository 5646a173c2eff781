use Rattle.std.proofs.Common.{subst}
use Rattle.std.proofs.lemmas.Int.{to_z-of_z}
use mir.Syntax.{w128}
use Rattle.p3_lift.specs.Judging.{IsComparison, IsOutcome}
use Rattle.p3_lift.proofs.LiftLaws.{differs_where_apart, worth_where_same}
use Rattle.p3_lift.proofs.lifting.metric_of.Goals as goal

pub returns-in-Fault-clause-refused : goal.returns-in-Fault-clause-refused
returns-in-Fault-clause-refused c = λ plan are. subst (IsOutcome c.args.source.now.checked.now.task plan) c.in-Fault.is (c.in_ok-fault.ensures plan are)

pub returns-in-Valid-clause-metric : goal.returns-in-Valid-clause-metric
returns-in-Valid-clause-metric c =
    let T = c.args.source.now.checked.now.task in
    worth_where_same T c.args.copied.now c.args.cost c.in-Valid.worth (λ plan are. subst (IsOutcome T plan) c.in-Valid.is (c.in_ok-fault.ensures plan are)) c.compared.result
    (subst (λ cost. IsComparison cost c.in-Valid.worth c.compared.result) (to_z-of_z w128 c.args.cost c.ranges.cost) c.compared.ensures)

pub returns-in-Valid-clause-refused : goal.returns-in-Valid-clause-refused
returns-in-Valid-clause-refused c =
    let T = c.args.source.now.checked.now.task in
    differs_where_apart T c.args.copied.now c.args.cost c.in-Valid.worth (λ plan are. subst (IsOutcome T plan) c.in-Valid.is (c.in_ok-fault.ensures plan are)) c.compared.result
    (subst (λ cost. IsComparison cost c.in-Valid.worth c.compared.result) (to_z-of_z w128 c.args.cost c.ranges.cost) c.compared.ensures)
