-- A task in the style of the planning competitions: types, costs by a static function, and preferences at all places.
use Rattle.std.specs.Prelude.{◌≡◌, [], ◌∷◌, length, pos, codes, Some, None}
use Prim.Native.String.{String}
use Rattle.p3_base.specs.declared.refusal.Direction.TheVariants.{Minimize}
use Rattle.p3_task.specs.Plans.{Plan}
use Rattle.p3_task.specs.Constraints.{instances}
use Rattle.p3_task.specs.Validity.{first_fault, AtStep, UnknownAction, Arguments, NoCost}
use Rattle.p3_task.specs.Metrics.{violated, cost, value}
use Rattle.p3_task.specs.Offences.{WellFormed}
use Rattle.p3_task.specs.Lifting.{steps, lift}
use Rattle.p3_task.specs.Worked.Build.{ref, typed, part, atom, add, del, increase_by_value, soft, soft_constraint, metric, weighted, kind_below, kind, header, action, numeral, fact, given, given_by, step, bare_steps, empty_domain, empty_problem}
use Rattle.p3_task.specs.declared.formula.Formula.TheVariants as formula
use Rattle.p3_task.specs.declared.effect.Numeral.{Numeral}
use Rattle.p3_task.specs.declared.effect.Effect.TheVariants as effect
use Rattle.p3_task.specs.declared.goal.PreGoal.TheVariants as goal
use Rattle.p3_base.specs.declared.operator.Operator.TheVariants.{Always, AtMostOnce, SometimeBefore}
use Rattle.p3_task.specs.declared.constraint.Constraint.TheVariants as constraint
use Rattle.p3_task.specs.declared.metric.Num.TheVariants as num
use Rattle.p3_task.specs.declared.task.Action.{Action}
use Rattle.p3_task.specs.declared.task.Init.{Init}
use Rattle.p3_task.specs.declared.task.Domain.{Domain}
use Rattle.p3_task.specs.declared.task.Problem.{Problem}
use Rattle.p3_task.specs.declared.task.Task.{Task}

abbrev pub drive : Action
drive = action "drive" (typed "?t" ("truck" ∷ []) ∷ typed "?a" ("place" ∷ []) ∷ typed "?b" ("place" ∷ []) ∷ [])
    (goal.Plain (atom "at" ("?t" ∷ "?a" ∷ [])))
    (effect.All (del "at" ("?t" ∷ "?a" ∷ []) ∷ add "at" ("?t" ∷ "?b" ∷ []) ∷ increase_by_value "road-length" ("?a" ∷ "?b" ∷ []) ∷ []))

abbrev pub load : Action
load = action "load" (typed "?c" ("crate" ∷ []) ∷ typed "?t" ("truck" ∷ []) ∷ typed "?p" ("place" ∷ []) ∷ [])
    (goal.Both (goal.Plain (atom "at" ("?t" ∷ "?p" ∷ [])) ∷ goal.Plain (atom "at" ("?c" ∷ "?p" ∷ []))
    ∷ soft "light" (formula.Forall (typed "?d" ("crate" ∷ []) ∷ []) (formula.Not (atom "in" ("?d" ∷ "?t" ∷ [])))) ∷ []))
    (effect.All (del "at" ("?c" ∷ "?p" ∷ []) ∷ add "in" ("?c" ∷ "?t" ∷ []) ∷ []))

abbrev pub unload : Action
unload = action "unload" (typed "?c" ("crate" ∷ []) ∷ typed "?t" ("truck" ∷ []) ∷ typed "?p" ("place" ∷ []) ∷ [])
    (goal.Both (goal.Plain (atom "at" ("?t" ∷ "?p" ∷ [])) ∷ goal.Plain (atom "in" ("?c" ∷ "?t" ∷ [])) ∷ []))
    (effect.All (del "in" ("?c" ∷ "?t" ∷ []) ∷ add "at" ("?c" ∷ "?p" ∷ []) ∷ []))

abbrev pub trucks_domain : Domain
trucks_domain = record empty_domain {
  name = ref "trucks-pref";
  kinds = kind_below "truck" "movable" ∷ kind_below "crate" "movable" ∷ kind "place" ∷ [];
  predicates = header "at" (typed "?x" ("truck" ∷ "crate" ∷ []) ∷ typed "?p" ("place" ∷ []) ∷ []) ∷ header "in" (typed "?c" ("crate" ∷ []) ∷ typed "?t" ("truck" ∷ []) ∷ []) ∷ [];
  functions = header "total-cost" [] ∷ header "road-length" (typed "?a" ("place" ∷ []) ∷ typed "?b" ("place" ∷ []) ∷ []) ∷ [];
  actions = drive ∷ load ∷ unload ∷ [];
}

abbrev pub road : String → String → Init
road a b = given "road-length" (a ∷ b ∷ []) 4

abbrev pub long_road : String → String → Init
long_road a b = given "road-length" (a ∷ b ∷ []) 7

-- the road from a to b has the length
abbrev pub trucks_problem_by : Numeral → Problem
trucks_problem_by length = record empty_problem {
  name = ref "deliver-2";
  domain = ref "trucks-pref";
  objects = typed "t1" ("truck" ∷ []) ∷ typed "c1" ("crate" ∷ []) ∷ typed "c2" ("crate" ∷ []) ∷ typed "a" ("place" ∷ []) ∷ typed "b" ("place" ∷ []) ∷ typed "c" ("place" ∷ []) ∷ [];
  init = fact "at" ("t1" ∷ "a" ∷ []) ∷ fact "at" ("c1" ∷ "a" ∷ []) ∷ fact "at" ("c2" ∷ "a" ∷ []) ∷ given "total-cost" [] 0
      ∷ given_by "road-length" ("a" ∷ "b" ∷ []) length ∷ road "b" "a" ∷ long_road "b" "c" ∷ long_road "c" "b" ∷ [];
  goal = part (goal.Both (goal.Plain (atom "at" ("c1" ∷ "b" ∷ [])) ∷ soft "home" (atom "at" ("c2" ∷ "c" ∷ [])) ∷ soft "back" (atom "at" ("t1" ∷ "a" ∷ [])) ∷ []));
  constraints = part (constraint.Both (
      constraint.Single (Always (formula.Forall (typed "?t" ("truck" ∷ []) ∷ []) (formula.Exists (typed "?p" ("place" ∷ []) ∷ []) (atom "at" ("?t" ∷ "?p" ∷ [])))))
      ∷ constraint.Each (typed "?c" ("crate" ∷ []) ∷ []) (soft_constraint "once" (constraint.Single (AtMostOnce (atom "in" ("?c" ∷ "t1" ∷ [])))))
      ∷ soft_constraint "late" (constraint.Single (SometimeBefore (atom "at" ("t1" ∷ "c" ∷ [])) (atom "at" ("c1" ∷ "b" ∷ [])))) ∷ []));
  metric = metric Minimize (num.Sum 0 (num.TotalCost 0 ∷ weighted 6 "light" ∷ weighted 20 "back" ∷ weighted 15 "home" ∷ weighted 3 "once" ∷ weighted 1 "late" ∷ []));
}

abbrev pub trucks_problem : Problem
trucks_problem = trucks_problem_by (numeral 4)

unfoldable pub trucks : Task
trucks = record { domain = trucks_domain; problem = trucks_problem }

unfoldable pub delivery : Plan
delivery = step "load" ("c1" ∷ "t1" ∷ "a" ∷ []) ∷ step "load" ("c2" ∷ "t1" ∷ "a" ∷ []) ∷ step "drive" ("t1" ∷ "a" ∷ "b" ∷ [])
    ∷ step "unload" ("c1" ∷ "t1" ∷ "b" ∷ []) ∷ step "drive" ("t1" ∷ "b" ∷ "c" ∷ []) ∷ step "unload" ("c2" ∷ "t1" ∷ "c" ∷ []) ∷ []

unfoldable pub written_delivery : Plan
written_delivery = bare_steps ("s9v0" ∷ "s12v1" ∷ "s1v" ∷ "s16v" ∷ "s5v" ∷ "s20v" ∷ "finish" ∷ "collect0" ∷ "collect1" ∷ "collect2" ∷ "collect3" ∷ "forgo4" ∷ [])

pub record TheDelivery : Type 0 where
  pub well_formed : WellFormed trucks
  pub steps : length (steps trucks) ≡ 21
  pub instances : length (instances trucks) ≡ 5
  pub valid : first_fault trucks delivery ≡ None
  pub light : violated trucks delivery (codes "light") ≡ 1
  pub home : violated trucks delivery (codes "home") ≡ 0
  pub back : violated trucks delivery (codes "back") ≡ 1
  pub once : violated trucks delivery (codes "once") ≡ 0
  pub late : violated trucks delivery (codes "late") ≡ 0
  pub cost : cost trucks delivery ≡ 11
  pub value : value trucks delivery ≡ pos 37
  pub lifts : lift trucks written_delivery ≡ delivery

-- a missing value, wrong arguments and an unknown action
pub record FaultsOfOneStep : Type 0 where
  pub no_cost : first_fault trucks (step "drive" ("t1" ∷ "a" ∷ "c" ∷ []) ∷ []) ≡ Some (AtStep 1 NoCost)
  pub too_few : first_fault trucks (step "drive" ("t1" ∷ "a" ∷ []) ∷ []) ≡ Some (AtStep 1 Arguments)
  pub unknown : first_fault trucks (step "fly" ("t1" ∷ []) ∷ []) ≡ Some (AtStep 1 UnknownAction)
