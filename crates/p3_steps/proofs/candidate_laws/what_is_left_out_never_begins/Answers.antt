use Rattle.std.proofs.Common.{true}
use Rattle.p3_steps.proofs.PossibleLaws.{begins-wider, may-where-met, may-begin-where-met, wider}
use Rattle.p3_steps.proofs.candidate_laws.what_is_left_out_never_begins.Goals as goal

pub returns-clause-condition : goal.returns-clause-condition
returns-clause-condition c N S s settled slots tree wish is = may-where-met N S s settled slots tree wish is

pub returns-clause-goal : goal.returns-clause-goal
returns-clause-goal c N S s settled slots tree is = may-begin-where-met N S s settled slots tree is

pub returns-clause-condition_yet : goal.returns-clause-condition_yet
returns-clause-condition_yet c N S slots rest tree wish may = wider N S true slots rest tree wish may

pub returns-clause-goal_yet : goal.returns-clause-goal_yet
returns-clause-goal_yet c N S slots rest tree may = begins-wider N S true slots rest tree may
