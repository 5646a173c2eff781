-- Why the constraints and preferences of a plan are satisfied or not: for each operator the visited states that show it (the PDDL3 report).
use Rattle.std.specs.Prelude.{ℕ, ◌-◌, Bool, not, List, ◌++◌, map, flat_map, filter, length, slice_get, Option, None, option_and_then}
use Rattle.std.specs.List.{enumerate_from}
use Rattle.p3_base.specs.declared.showing.Reason.{Reason}
use Rattle.p3_base.specs.declared.showing.Showing.{Showing}
use Rattle.p3_base.specs.declared.showing.Showing.TheVariants.{FailsAt}
use Rattle.p3_base.specs.declared.showing.Subject.{Subject}
use Rattle.p3_base.specs.declared.showing.Subject.TheVariants.{Hard, Soft, Pre}
use Rattle.p3_task.specs.Names.{Name}
use Rattle.p3_task.specs.States.{State, Environment}
use Rattle.p3_task.specs.Formulas.{holds}
use Rattle.p3_task.specs.Goals.{StatePref}
use Rattle.p3_task.specs.Plans.{Plan, Move, moves, visited}
use Rattle.p3_task.specs.Constraints.{HardModal, Instance, hard_list, holds_at, instances, operators}
use Rattle.p3_task.specs.Metrics.{step_prefs}
use Rattle.p3_task.specs.Modal.{Modal}
use Rattle.p3_base.specs.Operators.{over, showing}
use Rattle.p3_task.specs.declared.task.Step.{Step}
use Rattle.p3_task.specs.declared.task.Task.{Task}

-- the states that show whether an operator is satisfied over the visited states
unfoldable pub shown : Task → List State → Environment → Modal → Showing
shown T W env modal = showing (length W) (over (holds_at T W env) modal)

-- ---- reasons

-- the operators of a list, each with its number
abbrev pub operator_reasons : Task → List State → (ℕ → Subject) → List HardModal → List Reason
operator_reasons T W subject list = map (λ (numbered : ℕ × HardModal). record { subject = subject numbered.0; showing = shown T W numbered.1.env numbered.1.modal }) (enumerate_from 0 list)

abbrev pub hard_reasons : Task → Plan → List Reason
hard_reasons T plan = operator_reasons T (visited T plan) Hard (hard_list T)

abbrev pub instance_reasons : Task → Plan → ℕ × Instance → List Reason
instance_reasons T plan numbered = operator_reasons T (visited T plan) (Soft numbered.0) (operators T numbered.1.env numbered.1.body)

-- the precondition preferences of a step that are false in the state before it; before step j stands state j - 1
abbrev pub is_false_in : Task → State → ℕ × StatePref → Bool
is_false_in T s numbered = not (holds T s numbered.1.env numbered.1.body)

abbrev pub move_reasons : Task → ℕ × Move → List Reason
move_reasons T numbered =
    map (λ (pref : ℕ × StatePref). record { subject = Pre numbered.0 pref.0; showing = FailsAt (numbered.0 - 1) })
    (filter (is_false_in T numbered.1.state) (enumerate_from 0 (step_prefs T numbered.1.step)))

-- the hard constraints, the operators of the instances, and the false preferences of the steps, all in text and binding order
unfoldable pub reasons : Task → Plan → List Reason
reasons T plan = hard_reasons T plan ++ flat_map (instance_reasons T plan) (enumerate_from 0 (instances T)) ++ flat_map (move_reasons T) (enumerate_from 1 (moves T plan))

-- the name of a preference instance, where it has one
abbrev pub instance_name : Task → ℕ → Option Name
instance_name T number = option_and_then (λ (instance : Instance). instance.name) (slice_get (instances T) number)

-- the name of a precondition preference of a step, where it has one
abbrev pub pref_name : Task → Step → ℕ → Option Name
pref_name T step number = option_and_then (λ (pref : StatePref). pref.name) (slice_get (step_prefs T step) number)

-- the same of a step that is counted from 1
abbrev pub name_in_step : Task → Plan → ℕ → ℕ → Option Name
name_in_step T plan step number = option_and_then (λ own. pref_name T own number) (slice_get plan (step - 1))

-- the name of the preference that a reason is of, where it has one
abbrev pub subject_name : Task → Plan → Subject → Option Name
subject_name T plan (Hard number) = None
subject_name T plan (Soft instance part) = instance_name T instance
subject_name T plan (Pre step pref) = name_in_step T plan step pref
