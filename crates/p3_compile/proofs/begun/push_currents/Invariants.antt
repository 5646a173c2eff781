use Rattle.std.proofs.Common.{◌≡◌, ◌++◌, take}
use Rattle.p3_compile.specs.Stepping.{current_names}
use Rattle.p3_compile.proofs.begun.push_currents.Given as goal

-- the current atoms of the steps passed have names
abbrev pub invariant-loop-step : goal.invariant-loop-step
invariant-loop-step l = l.names ≡ l.fn.names ++ current_names l.by_name (take l.step-index l.steps)
