use Rattle.std.proofs.Common.{◌∙◌, ap, subst}
use Rattle.std.specs.Prelude.{IfOk}
use Rattle.p3_formula.specs.Forms.{is_below}
use Rattle.p3_compile.specs.Compiling.{IsBegun, with_goal}
use Rattle.p3_compile.proofs.begun.BegunTarget.of.Goals as goal

pub with_goal-requires-clause-goal : goal.with_goal-requires-clause-goal
with_goal-requires-clause-goal c = ap (is_below c.args.task.now.atoms) c.in_ok-goal.ensures ∙ c.requires.atoms.goal

pub returns : goal.returns
returns c = subst (λ form. IfOk c.with_goal.result (IsBegun (with_goal form c.args.task.now) c.args.weights.now)) c.in_ok-goal.ensures c.with_goal.ensures
