-- The guards of hard constraints that a step touches, and the precondition that they make.
use Rattle.std.specs.Prelude.{◌≡◌, ℕ, ◌≤◌, true, List, [], ◌∷◌, ◌++◌}
use Rattle.std.specs.List.{list_all}
use Rattle.p3_formula.specs.Forms.{is_below}
use Rattle.p3_formula.specs.Simplified.{spread}
use Rattle.p3_formula.specs.Targets.{is_sized_change}
use Rattle.p3_formula.specs.declared.form.Change.{Change}
use Rattle.p3_formula.specs.declared.form.Form.{Form}
use Rattle.p3_formula.specs.declared.form.Form.TheVariants.{And}
use Rattle.p3_monitors.specs.declared.monitoring.Monitor.{Monitor}
use Rattle.p3_simulation.specs.Parts.{AreBefore}
use Rattle.p3_simulation.specs.Monitoring.{AreGuards}

-- the guards of some of the monitors, which have no atoms but the monitors' own and those of the constraints and of the step
pub record HasGuards (step : List Change) (monitors : List Monitor) (guards : List Form) : Type 0 where
  pub are : AreGuards step monitors guards
  pub inside : (sources bound : ℕ) → sources ≤ bound → AreBefore sources bound monitors → list_all (is_sized_change sources) step ≡ true → list_all (is_below bound) guards ≡ true

-- the guard of one monitor, where it has one, stands behind the others
pub record HasOneGuard (step : List Change) (monitor : Monitor) (old new : List Form) : Type 0 where
  pub own : List Form
  pub has : HasGuards step (monitor ∷ []) own
  pub are : new ≡ old ++ own

-- the precondition holds, and so do the guards, which stand behind its parts
abbrev pub guarded_by : Form → List Form → Form
guarded_by pre [] = pre
guarded_by pre (guard ∷ guards) = And (spread pre ++ guard ∷ guards)

-- that is the form, for the guards of some of the monitors
pub record IsGuardedBy (step : List Change) (monitors : List Monitor) (pre form : Form) : Type 0 where
  pub guards : List Form
  pub has : HasGuards step monitors guards
  pub is : form ≡ guarded_by pre guards
