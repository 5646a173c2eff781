-- Whether the goal holds at the end of a plan whose steps fit, by its first fault.
use Rattle.std.proofs.Common.{◌≡◌, ◌∙◌, refl, sym, ap, Bool, true, false, not, Option, Some, None, ℕ}
use Rattle.std.specs.Prelude.{if◌then◌else◌, option_map, position}
use Rattle.std.specs.Option.{option_or}
use Rattle.p3_task.specs.Constraints.{HardModal, hard_list}
use Rattle.p3_task.specs.Plans.{Plan}
use Rattle.p3_task.specs.Validity.{AtConstraint, AtGoal, constraint_fault, first_fault, goal_fault, goal_holds, is_met, step_fault}
use Rattle.p3_task.specs.declared.task.Task.{Task}
use Rattle.p3_findings.specs.Accounts.{spares_goal}

by_goal : (holds : Bool) (unmet : Option ℕ) → holds ≡ spares_goal (option_or None (option_or (if holds then None else Some AtGoal) (option_map AtConstraint unmet)))
by_goal true None = refl
by_goal true (Some number) = refl
by_goal false unmet = refl

pub goal_by : (T : Task) (plan : Plan) → step_fault T plan ≡ None → goal_holds T plan ≡ spares_goal (first_fault T plan)
unfolding first_fault goal_fault constraint_fault
goal_by T plan none =
    by_goal (goal_holds T plan) (position (λ (entry : HardModal). not (is_met T plan entry)) (hard_list T))
    ∙ ap (λ found. spares_goal (option_or found (option_or (goal_fault T plan) (constraint_fault T plan)))) (sym none)
