-- A plan is valid exactly where it has no first fault.
use Rattle.std.proofs.Common.{◌≡◌, ℕ, ◌+◌, ◌∙◌, refl, sym, ap, Bool, true, false, not, ◌&&◌, List, [], ◌∷◌, Option, Some, None, length, suc, ltb, cond, is_none, arith, ◌↔◌}
use Rattle.std.specs.Prelude.{filter_map, slice_get, option_map, position, if◌then◌else◌}
use Rattle.std.specs.Option.{option_or}
use Rattle.std.specs.List.{list_all, enumerate_from, prefix_len, cons_option}
use Rattle.std.proofs.lemmas.Bool.Decides.{nat_tests}
use Rattle.p3_task.specs.States.{State}
use Rattle.p3_task.specs.Plans.{Plan, action_named, fits, fits_by, steps_fit, Move, moves}
use Rattle.p3_task.specs.Constraints.{hard_list}
use Rattle.p3_task.specs.Validity.{Valid, is_valid, is_met, goal_holds, Misfit, Arguments, Precondition, NoCost, misfit, misfit_by, Fault, AtStep, AtConstraint, fault_at, step_fault, goal_fault, constraint_fault, first_fault}
use Rattle.p3_task.specs.declared.task.Action.{Action}
use Rattle.p3_task.specs.declared.task.Step.{Step}
use Rattle.p3_task.specs.declared.task.Task.{Task}

three_tests : (a b c : Bool) → (a && b && c) ≡ is_none (if not a then Some Arguments else (if not b then Some Precondition else (if not c then Some NoCost else None)))
three_tests true true true = refl
three_tests true true false = refl
three_tests true false _ = refl
three_tests false _ _ = refl

fits_by-misfit : (T : Task) (s : State) (step : Step) (action : Option Action) → fits_by T s step action ≡ is_none (misfit_by T s step action)
fits_by-misfit T s step None = refl
fits_by-misfit T s step (Some action) = three_tests _ _ _

fits-misfit : (T : Task) (s : State) (step : Step) → fits T s step ≡ is_none (misfit T s step)
unfolding fits misfit
fits-misfit T s step = fits_by-misfit T s step (action_named T step.action)

first_of_two : (number : ℕ) (kind : Option Misfit) (rest : List Fault) → is_none (slice_get (cons_option (option_map (AtStep number) kind) rest) 0) ≡ (is_none kind && is_none (slice_get rest 0))
first_of_two number None rest = refl
first_of_two number (Some kind) rest = refl

no_step_fault : (T : Task) (number : ℕ) (all : List Move) → is_none (slice_get (filter_map (fault_at T) (enumerate_from number all)) 0) ≡ list_all (λ (move : Move). fits T move.state move.step) all
no_step_fault T number [] = refl
no_step_fault T number (move ∷ rest) =
    first_of_two number (misfit T move.state move.step) (filter_map (fault_at T) (enumerate_from (number + 1) rest))
    ∙ (λ i. sym (fits-misfit T move.state move.step) i && no_step_fault T (number + 1) rest i)

passes_before_end : {X : Type 0} (q : X → Bool) (items : List X) → ltb (prefix_len (λ item. not (not (q item))) items) (length items) ≡ not (list_all q items)
passes_before_end q [] = refl
passes_before_end q (item ∷ items) = one (q item) (prefix_len (λ other. not (not (q other))) items) (length items) (list_all q items) (passes_before_end q items)
  where
    one : (here : Bool) (n m : ℕ) (there : Bool) → ltb n m ≡ not there → ltb (cond (not (not here)) (1 + n) 0) (suc m) ≡ not (here && there)
    one true n m there e = grind (arith, nat_tests)
    one false n m there e = grind (arith, nat_tests)

no_position : {X : Type 0} (q : X → Bool) (items : List X) → is_none (option_map AtConstraint (position (λ item. not (q item)) items)) ≡ list_all q items
no_position q items = ap (λ found. is_none (option_map AtConstraint (cond found (Some (prefix_len (λ item. not (not (q item))) items)) None))) (passes_before_end q items) ∙ two (list_all q items)
  where
    two : (all : Bool) → is_none (option_map AtConstraint (cond (not all) (Some (prefix_len (λ item. not (not (q item))) items)) None)) ≡ all
    two true = refl
    two false = refl

no_goal_fault : (T : Task) (plan : Plan) → is_none (goal_fault T plan) ≡ goal_holds T plan
unfolding goal_fault
no_goal_fault T plan = one (goal_holds T plan)
  where
    one : (holds : Bool) → is_none (if holds then None else Some Fault.AtGoal) ≡ holds
    one true = refl
    one false = refl

none_of_either : (first second : Option Fault) → is_none (option_or first second) ≡ (is_none first && is_none second)
none_of_either None second = refl
none_of_either (Some fault) second = refl

regrouped : (a b c : Bool) → (a && (b && c)) ≡ (a && b && c)
regrouped true b c = refl
regrouped false b c = refl

pub is_valid-first_fault : (T : Task) (plan : Plan) → is_valid T plan ≡ is_none (first_fault T plan)
unfolding is_valid first_fault steps_fit step_fault constraint_fault
is_valid-first_fault T plan = sym (none_of_either (step_fault T plan) (option_or (goal_fault T plan) (constraint_fault T plan))
    ∙ ap (λ rest. is_none (step_fault T plan) && rest) (none_of_either (goal_fault T plan) (constraint_fault T plan))
    ∙ (λ i. no_step_fault T 1 (moves T plan) i && (no_goal_fault T plan i && no_position (is_met T plan) (hard_list T) i))
    ∙ regrouped (steps_fit T plan) (goal_holds T plan) (list_all (is_met T plan) (hard_list T)))

none_where : (fault : Option Fault) → (is_none fault ≡ true) ↔ (fault ≡ None)
none_where None = (λ _. refl, λ _. refl)
none_where (Some fault) = (λ e. (cc), λ e. (cc))

pub valid_where_no_fault : (T : Task) (plan : Plan) → Valid T plan ↔ (first_fault T plan ≡ None)
valid_where_no_fault T plan = (λ valid. (none_where (first_fault T plan)).0 (sym (is_valid-first_fault T plan) ∙ valid), λ e. is_valid-first_fault T plan ∙ (none_where (first_fault T plan)).1 e)
