-- The least step that does not fit, where a plan's first fault is that of a step.
use Rattle.std.proofs.Common.{◌≡◌, ◌∙◌, ℕ, ◌+◌, sym, Bool, true, false, length, Option, Some, None}
use Rattle.std.specs.Prelude.{option_map, if◌then◌else◌}
use Rattle.std.specs.Option.{option_or}
use Rattle.p3_task.specs.Plans.{Plan, last_state, visited}
use Rattle.p3_task.specs.Validity.{AtConstraint, AtGoal, AtStep, Fault, Misfit, constraint_fault, first_fault, goal_fault, misfit, step_fault}
use Rattle.p3_task.specs.declared.task.Task.{Task}
use Rattle.p3_types.specs.declared.finding.Found.{Found}
use Rattle.p3_run.specs.Runs.{Ran}
use Rattle.p3_eval.specs.Judged.{NamesMisfitOfFound, TellsOfFound, fault_in}
use Rattle.p3_eval.specs.Runs.{BelongTogether}
use Rattle.p3_eval.specs.declared.fault.PlanFault.{PlanFault}
use Rattle.p3_eval.proofs.JudgeLaws.{IsNext, next_faults}

by_parts : (steps : Option Fault) (goal : Bool) (unmet : Option ℕ) (number : ℕ) (kind : Misfit)
    → option_or steps (option_or (if goal then None else Some AtGoal) (option_map AtConstraint unmet)) ≡ Some (AtStep number kind) → steps ≡ Some (AtStep number kind)
by_parts (Some fault) goal unmet number kind e = e
by_parts None true None number kind e = absurd (cc)
by_parts None true (Some place) number kind e = absurd (cc)
by_parts None false unmet number kind e = absurd (cc)

first_is_step : (T : Task) (plan : Plan) (number : ℕ) (kind : Misfit) → first_fault T plan ≡ Some (AtStep number kind) → step_fault T plan ≡ Some (AtStep number kind)
unfolding first_fault goal_fault constraint_fault
first_is_step T plan number kind e = by_parts (step_fault T plan) _ _ number kind e

-- a fault that is a step's, as the misfit names it
named : (T : Task) (plan : Plan) (fault : PlanFault) (number : ℕ) (why : Option Misfit) → first_fault T plan ≡ Some (fault_in fault) → Some (fault_in fault) ≡ option_map (AtStep number) why → step_fault T plan ≡ Some (fault_in fault)
named T plan fault number None first is = absurd (cc)
named T plan fault number (Some kind) first is = first_is_step T plan number kind (first ∙ is) ∙ sym is

-- the step that was tried is the least one that does not fit
pub step_faults : (T : Task) (plan : Plan) (now : Ran) (found : Found) → BelongTogether T now.task now.weights → IsNext T plan now found
    → (fault : PlanFault) → TellsOfFound now found (Some fault) → NamesMisfitOfFound now found (Some fault) → step_fault T plan ≡ Some (fault_in fault)
step_faults T plan now found together next fault told names =
    named T plan fault (length next.front + 1) (misfit T (last_state (visited T next.front)) next.step) (next_faults T plan now found together next fault told)
    (names T together next.front next.done next.asked next.step next.is)
