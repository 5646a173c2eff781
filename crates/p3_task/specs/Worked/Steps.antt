-- Worked cases on steps: bindings, effects and faults.
use Rattle.std.specs.Prelude.{◌≡◌, List, [], ◌∷◌, pos, Some, None}
use Rattle.p3_task.specs.Plans.{Plan}
use Rattle.p3_task.specs.Validity.{Valid, first_fault, AtStep, AtConstraint, Precondition}
use Rattle.p3_task.specs.Metrics.{cost, value}
use Rattle.p3_task.specs.Offences.{WellFormed}
use Rattle.p3_task.specs.Worked.Build.{typed, part, atom, add, del, kind, header, predicates, action, fact, facts, step, bare_steps, no_goal, empty_domain, empty_problem}
use Rattle.p3_task.specs.declared.term.Typed.{Typed}
use Rattle.p3_task.specs.declared.formula.Formula.TheVariants.{Exists, Not}
use Rattle.p3_task.specs.declared.effect.Effect.TheVariants as effect
use Rattle.p3_task.specs.declared.goal.PreGoal.TheVariants as goal
use Rattle.p3_base.specs.declared.operator.Operator.TheVariants.{Always}
use Rattle.p3_task.specs.declared.constraint.Constraint.TheVariants as constraint
use Rattle.p3_task.specs.declared.task.Init.{Init}
use Rattle.p3_task.specs.declared.task.Task.{Task}

-- ---- an inner variable hides an outer one of another type

-- (:action a :parameters (?x - t) :precondition (exists (?x - u) (p ?x)))
unfoldable pub hiding : List Typed → List Init → Task
hiding objects entries = record {
  domain = record empty_domain {
    kinds = kind "t" ∷ kind "u" ∷ [];
    predicates = header "p" (typed "?x" [] ∷ []) ∷ [];
    actions = action "a" (typed "?x" ("t" ∷ []) ∷ []) (goal.Plain (Exists (typed "?x" ("u" ∷ []) ∷ []) (atom "p" ("?x" ∷ [])))) (effect.All []) ∷ [];
  };
  problem = record empty_problem { objects = objects; init = entries };
}

abbrev pub inner_object : Task
inner_object = hiding (typed "o" ("t" ∷ []) ∷ typed "w" ("u" ∷ []) ∷ []) (fact "p" ("w" ∷ []) ∷ [])

abbrev pub outer_object : Task
outer_object = hiding (typed "o" ("t" ∷ []) ∷ []) (fact "p" ("o" ∷ []) ∷ [])

abbrev pub at_o : Plan
at_o = step "a" ("o" ∷ []) ∷ []

pub record AnInnerVariableHidesAnOuterOne : Type 0 where
  pub well_formed : WellFormed inner_object
  pub holds_inside : first_fault inner_object at_o ≡ None
  pub cost : cost inner_object at_o ≡ 0
  pub value : value inner_object at_o ≡ pos 0
  pub fails_outside : first_fault outer_object at_o ≡ Some (AtStep 1 Precondition)

-- ---- an add beside a delete of the same atom

-- (:action a :effect (and (when (x) (not (p))) (when (y) (p)))), (:constraints (always (p)))
unfoldable pub both_changes : List Init → Task
both_changes entries = record {
  domain = record empty_domain {
    predicates = predicates ("p" ∷ "x" ∷ "y" ∷ []);
    actions = action "a" [] no_goal (effect.All (effect.If (atom "x" []) (del "p" []) ∷ effect.If (atom "y" []) (add "p" []) ∷ [])) ∷ [];
  };
  problem = record empty_problem { init = entries; constraints = part (constraint.Single (Always (atom "p" []))) };
}

pub record AnAddWinsOverADelete : Type 0 where
  pub both : first_fault (both_changes (facts ("p" ∷ "x" ∷ "y" ∷ []))) (bare_steps ("a" ∷ [])) ≡ None
  pub delete_alone : first_fault (both_changes (facts ("p" ∷ "x" ∷ []))) (bare_steps ("a" ∷ [])) ≡ Some (AtConstraint 0)

-- ---- a failing second step

-- (:action a :precondition (not (p)) :effect (p))
unfoldable pub once_only : Task
once_only = record {
  domain = record empty_domain { predicates = predicates ("p" ∷ []); actions = action "a" [] (goal.Plain (Not (atom "p" []))) (add "p" []) ∷ [] };
  problem = empty_problem;
}

pub record TheSecondStepFails : Type 0 where
  pub one : Valid once_only (bare_steps ("a" ∷ []))
  pub two : first_fault once_only (bare_steps ("a" ∷ "a" ∷ [])) ≡ Some (AtStep 2 Precondition)
