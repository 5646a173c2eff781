-- The numbers of the names of preferences in a ground task.
use Rattle.std.specs.Prelude.{ℕ, List, Option, option_and_then, slice_get}
use Rattle.p3_task.specs.Names.{Name}
use Rattle.p3_task.specs.PreferenceNames.{ordered_names}
use Rattle.p3_task.specs.declared.task.Task.{Task}
use Rattle.p3_formula.specs.GroundPlans.{step_of}
use Rattle.p3_formula.specs.declared.modal.GroundPref.{GroundPref}
use Rattle.p3_formula.specs.declared.modal.GroundSoft.{GroundSoft}
use Rattle.p3_formula.specs.declared.task.GroundStep.{GroundStep}
use Rattle.p3_formula.specs.declared.task.GroundTask.{GroundTask}

-- the preference name of a number
abbrev pub name_numbered : Task → Option ℕ → Option Name
name_numbered T number = option_and_then (slice_get (ordered_names T)) number

-- the number of an instance's name
abbrev pub instance_number : GroundTask → ℕ → Option ℕ
instance_number G instance = option_and_then (λ (soft : GroundSoft). soft.name) (slice_get G.soft instance)

-- the number of the name of a preference of a step
abbrev pub own_number : ℕ → GroundStep → Option ℕ
own_number pref step = option_and_then (λ (own : GroundPref). own.name) (slice_get step.prefs pref)

abbrev pub pref_number : GroundTask → ℕ → ℕ → Option ℕ
pref_number G number pref = option_and_then (own_number pref) (step_of G number)

-- the number of the name of a preference of the step at a place
abbrev pub pref_number_at : GroundTask → List ℕ → ℕ → ℕ → Option ℕ
pref_number_at G numbers place pref = option_and_then (λ number. pref_number G number pref) (slice_get numbers place)
