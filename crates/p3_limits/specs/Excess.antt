-- What of a task passes a limit, by its named trees, which have the places, and its numbered trees side by side.
use Rattle.std.specs.Prelude.{ℕ, ◌-◌, ◌≤◌, ◌^◌, nat_lt, List, [], ◌∷◌, ◌++◌, map, codes, slice_get, if◌then◌else◌, Option, Some, None}
use Rattle.p3_base.specs.declared.refusal.Code.TheVariants.{TooManyInstances, FormulaTooLarge, TooManyPreferences}
use Rattle.p3_base.specs.declared.refusal.Refusal.{Refusal}
use Rattle.p3_base.specs.declared.refusal.Side.{Side}
use Rattle.p3_numbers.specs.declared.constraint.NumberedConstraint.{NumberedConstraint}
use Rattle.p3_numbers.specs.declared.goal.NumberedGoal.{NumberedGoal}
use Rattle.p3_numbers.specs.declared.numbers.Numbers.{Numbers}
use Rattle.p3_numbers.specs.declared.task.NumberedAction.{NumberedAction}
use Rattle.p3_numbers.specs.declared.task.NumberedTask.{NumberedTask}
use Rattle.p3_task.specs.Refusals.Places.{refusal_at_word, word_at}
use Rattle.p3_task.specs.Sides.{Half, InDomain, InProblem, role_of, size_limit, step_count_limit, instance_limit}
use Rattle.p3_task.specs.declared.task.Action.{Action}
use Rattle.p3_task.specs.declared.task.Task.{Task}
use Rattle.p3_limits.specs.Cuts.{cut_choices}
use Rattle.p3_limits.specs.Least.{with_least}
use Rattle.p3_limits.specs.Preferences.{goal_offsets, constraint_offsets}
use Rattle.p3_limits.specs.Sizes.{effect_size, goal_size, constraint_size}

-- what is found is at a word of so many bytes that no number of 32 bits counts them
abbrev pub IsAtLongWord : Option Refusal → Type 0
IsAtLongWord None = ⊥
IsAtLongWord (Some refusal) = 2 ^ 32 ≤ refusal.len

-- ---- steps

-- at the action with which the choices of parameters pass the limit
abbrev pub refused_step : Numbers → Side → ℕ → List Action → List NumberedAction → Option Refusal
refused_step N side limit [] numbered = None
refused_step N side limit (action ∷ actions) [] = None
refused_step N side limit (action ∷ actions) (numbered ∷ others) =
    if nat_lt limit (cut_choices N numbered.ranges) then Some (refusal_at_word TooManyInstances (role_of side InDomain) action.name) else refused_step N side (limit - cut_choices N numbered.ranges) actions others

-- ---- sizes

abbrev pub large_at : Side → Half → List ℕ → ℕ → Refusal
large_at side half keyword at = refusal_at_word FormulaTooLarge (role_of side half) (word_at keyword at)

-- what was found, and the refusal too where the size passes the limit
abbrev pub noted : ℕ → ℕ → Refusal → Option Refusal → Option Refusal
noted limit size refusal found = if nat_lt limit size then with_least found refusal else found

abbrev pub noted_action : Numbers → Side → Action → NumberedAction → Option Refusal → Option Refusal
noted_action N side action numbered found =
    noted (size_limit side) (effect_size N numbered.effect) (large_at side InDomain (codes ":effect") action.effect.at)
    (noted (size_limit side) (goal_size N numbered.pre) (large_at side InDomain (codes ":precondition") action.pre.at) found)

abbrev pub noted_actions : Numbers → Side → List Action → List NumberedAction → Option Refusal → Option Refusal
noted_actions N side [] numbered found = found
noted_actions N side (action ∷ actions) [] found = found
noted_actions N side (action ∷ actions) (numbered ∷ others) found = noted_actions N side actions others (noted_action N side action numbered found)

abbrev pub noted_constraints : Numbers → Side → Half → ℕ → NumberedConstraint → Option Refusal
noted_constraints N side half at tree = noted (size_limit side) (constraint_size N tree) (large_at side half (codes ":constraints") at) None

abbrev pub large_in_domain : Side → Task → NumberedTask → Option Refusal
large_in_domain side T X = noted_actions X.numbers side T.domain.actions X.actions (noted_constraints X.numbers side InDomain T.domain.constraints.at X.domain_constraints)

abbrev pub large_in_problem : Side → Task → NumberedTask → Option Refusal
large_in_problem side T X =
    noted (size_limit side) (goal_size X.numbers X.goal) (large_at side InProblem (codes ":goal") T.problem.goal.at)
    (noted_constraints X.numbers side InProblem T.problem.constraints.at X.problem_constraints)

-- ---- preferences

abbrev pub many_at : Side → Half → ℕ → Refusal
many_at side half at = refusal_at_word TooManyPreferences (role_of side half) (word_at (codes "preference") at)

abbrev pub problem_offsets : NumberedTask → List ℕ
problem_offsets X = constraint_offsets X.numbers X.problem_constraints ++ goal_offsets X.numbers X.goal

abbrev pub refused_preference : Side → NumberedTask → Option Refusal
refused_preference side X = slice_get (map (many_at side InDomain) (constraint_offsets X.numbers X.domain_constraints) ++ map (many_at side InProblem) (problem_offsets X)) instance_limit

-- ---- their order

abbrev pub numbered_refusals : Side → Task → NumberedTask → List (Option Refusal)
numbered_refusals side T X =
    refused_step X.numbers side step_count_limit T.domain.actions X.actions ∷ large_in_domain side T X ∷ large_in_problem side T X ∷ refused_preference side X ∷ []
