use Rattle.std.proofs.Common.{◌∙◌, ap, sym, subst}
use Rattle.std.specs.Prelude.{IfOk}
use Rattle.p3_formula.specs.Conditions.{IsReady}
use Rattle.p3_formula.specs.Forms.{is_below}
use Rattle.p3_compile.specs.Compiling.{IsBegun, with_goal}
use Rattle.p3_compile.proofs.FrameLaws.{ready_without_goal}
use Rattle.p3_compile.proofs.begun.BegunTarget.taking_goal.Goals as goal

pub with_goal-requires-clause-ready : goal.with_goal-requires-clause-ready
with_goal-requires-clause-ready c = subst (λ form. IsReady (with_goal form c.args.task.now) c.args.weights.now) (sym c.replace-goal.ensures.after) (ready_without_goal c.args.task.now c.args.weights.now c.requires)

pub with_goal-requires-clause-goal : goal.with_goal-requires-clause-goal
with_goal-requires-clause-goal c = ap (is_below c.args.task.now.atoms) c.replace-goal.ensures.value ∙ c.requires.atoms.goal

pub returns-clause-begun : goal.returns-clause-begun
returns-clause-begun c = subst (λ form. IfOk c.with_goal.result (IsBegun (with_goal form c.args.task.now) c.args.weights.now)) c.replace-goal.ensures.value c.with_goal.ensures

pub returns-clause-left : goal.returns-clause-left
returns-clause-left c = ap (λ form. with_goal form c.args.task.now) c.replace-goal.ensures.after
