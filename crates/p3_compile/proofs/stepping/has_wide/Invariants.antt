use Rattle.std.proofs.Common.{◌≡◌, drop}
use Rattle.std.specs.List.{list_any}
use Rattle.p3_compile.proofs.stepping.has_wide.Given as goal
use Rattle.p3_simulation.specs.Naming.{is_wide}

-- the steps that are left decide
abbrev pub invariant-loop-step : goal.invariant-loop-step
invariant-loop-step l = list_any (is_wide l.by_name) (drop l.step-index l.steps) ≡ list_any (is_wide l.by_name) l.steps
