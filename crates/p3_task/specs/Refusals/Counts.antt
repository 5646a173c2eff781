-- What the sizes of a well-formed task show: too many steps, formulas that are too large once they are expanded, too many preference instances, and actions that are too dear or too wide.
use Rattle.std.specs.Prelude.{ℕ, ◌-◌, nat_lt, Bool, not, pos, int_lt, List, [], ◌∷◌, ◌++◌, map, flat_map, find, slice_get, codes, if◌then◌else◌, Option, Some, None, option_map}
use Rattle.p3_base.specs.declared.refusal.Code.{Code}
use Rattle.p3_base.specs.declared.refusal.Code.TheVariants.{CostTooLarge, TooManyInstances, FormulaTooLarge, TooManyPreferences, SplitTooWide}
use Rattle.p3_base.specs.declared.refusal.Refusal.{Refusal}
use Rattle.p3_base.specs.declared.refusal.Side.{Side}
use Rattle.p3_task.specs.Sides.{Half, InDomain, InProblem, role_of, size_limit, step_count_limit, instance_limit, width_limit, weight_bound}
use Rattle.p3_task.specs.Constraints.{Instance, domain_instances, problem_instances}
use Rattle.p3_task.specs.Limits.{binding_count, goal_size, effect_size, constraint_size, width, cost_bound}
use Rattle.p3_task.specs.FirstOffence.{least_word}
use Rattle.p3_task.specs.Refusals.Places.{refusal_at_word, word_at}
use Rattle.p3_task.specs.declared.term.Ref.{Ref}
use Rattle.p3_task.specs.declared.task.Action.{Action}
use Rattle.p3_task.specs.declared.task.Task.{Task}

-- ---- steps

-- the first item at which the running sum passes the limit
abbrev pub passes_at : {A : Type 0} → (A → ℕ) → ℕ → List A → Option A
passes_at size limit [] = None
passes_at size limit (item ∷ items) = if nat_lt limit (size item) then Some item else passes_at size (limit - size item) items

-- at the name of the action
abbrev pub too_many_steps : Side → Task → Option Refusal
too_many_steps side T =
    option_map (λ (action : Action). refusal_at_word TooManyInstances (role_of side InDomain) action.name) (passes_at (λ (action : Action). binding_count T action.params) step_count_limit T.domain.actions)

-- ---- sizes

-- the keyword of a part whose expanded size passes the limit
abbrev pub large_part : Side → List ℕ → ℕ → ℕ → List Ref
large_part side keyword at size = if nat_lt (size_limit side) size then word_at keyword at ∷ [] else []

abbrev pub large_action_parts : Side → Task → Action → List Ref
large_action_parts side T action =
    large_part side (codes ":precondition") action.pre.at (goal_size T action.pre.body) ++ large_part side (codes ":effect") action.effect.at (effect_size T action.effect.body)

abbrev pub large_domain_parts : Side → Task → List Ref
large_domain_parts side T =
    large_part side (codes ":constraints") T.domain.constraints.at (constraint_size T T.domain.constraints.body) ++ flat_map (large_action_parts side T) T.domain.actions

abbrev pub large_problem_parts : Side → Task → List Ref
large_problem_parts side T =
    large_part side (codes ":constraints") T.problem.constraints.at (constraint_size T T.problem.constraints.body) ++ large_part side (codes ":goal") T.problem.goal.at (goal_size T T.problem.goal.body)

-- the keyword of least offset
abbrev pub too_large : Side → Half → List Ref → Option Refusal
too_large side half words = option_map (refusal_at_word FormulaTooLarge (role_of side half)) (least_word words)

-- ---- instances

-- the word `preference` of an instance
abbrev pub preference_word : Side → Half → Instance → Refusal
preference_word side half instance = refusal_at_word TooManyPreferences (role_of side half) (word_at (codes "preference") instance.at)

abbrev pub preference_words : Side → Task → List Refusal
preference_words side T = map (preference_word side InDomain) (domain_instances T) ++ map (preference_word side InProblem) (problem_instances T)

-- at the first instance behind as many as there may be
abbrev pub too_many_preferences : Side → Task → Option Refusal
too_many_preferences side T = slice_get (preference_words side T) instance_limit

-- ---- actions

-- at the name of the first action that passes the test
abbrev pub first_action : (Action → Bool) → Code → Side → Task → Option Refusal
first_action test code side T = option_map (λ (action : Action). refusal_at_word code (role_of side InDomain) action.name) (find test T.domain.actions)

abbrev pub too_dear : Side → Task → Option Refusal
too_dear side T = first_action (λ action. not (int_lt (cost_bound T action) (pos weight_bound))) CostTooLarge side T

abbrev pub too_wide : Side → Task → Option Refusal
too_wide side T = first_action (λ action. nat_lt width_limit (width T action)) SplitTooWide side T

-- ---- their order

-- what is looked for before the actions
abbrev pub size_refusals : Side → Task → List (Option Refusal)
size_refusals side T =
    too_many_steps side T ∷ too_large side InDomain (large_domain_parts side T) ∷ too_large side InProblem (large_problem_parts side T) ∷ too_many_preferences side T ∷ []

abbrev pub action_refusals : Side → Task → List (Option Refusal)
action_refusals side T = too_dear side T ∷ too_wide side T ∷ []
