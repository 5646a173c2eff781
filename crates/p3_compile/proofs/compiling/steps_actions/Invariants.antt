use Rattle.std.proofs.Common.{take}
use Rattle.p3_compile.specs.Stepping.{AreMade}
use Rattle.p3_compile.proofs.compiling.steps_actions.Given as goal

-- the actions of the steps passed are made
abbrev pub invariant-loop-step : goal.invariant-loop-step
invariant-loop-step l = AreMade l.begun.frame l.weights (take l.step-index l.task.steps) l.begun.current l.current l.actions
