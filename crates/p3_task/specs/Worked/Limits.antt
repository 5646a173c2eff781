-- Worked cases on the counts for limits.
use Rattle.std.specs.Prelude.{◌≡◌, ℕ, ◌+◌, ◌*◌, ◌-◌, ◌^◌, List, [], ◌∷◌, pos, codes, decimal, map}
use Rattle.std.specs.List.{range_with_len}
use Rattle.p3_base.specs.declared.refusal.Direction.TheVariants.{Minimize}
use Rattle.p3_task.specs.Limits.{step_count, instance_count, goal_size, effect_size, constraint_size, width, cost_bound, constant, coefficient, cost_coefficient}
use Rattle.p3_task.specs.Faithful.{extra}
use Rattle.p3_task.specs.Worked.Build.{ref, term, typed, part, atom, add, increase_by, soft, metric, count, weighted, numeral, kind, header, predicates, action, step, no_goal, empty_domain, empty_problem}
use Rattle.p3_task.specs.Worked.Trucks.{trucks, drive, load}
use Rattle.p3_task.specs.declared.term.Typed.{Typed}
use Rattle.p3_task.specs.declared.formula.Formula.TheVariants as formula
use Rattle.p3_task.specs.declared.effect.Effect.TheVariants as effect
use Rattle.p3_task.specs.declared.goal.PreGoal.TheVariants as goal
use Rattle.p3_task.specs.declared.metric.Num.{Num}
use Rattle.p3_task.specs.declared.metric.Num.TheVariants as num
use Rattle.p3_task.specs.declared.task.Action.{Action}
use Rattle.p3_task.specs.declared.task.Task.{Task}

-- an object for each number below the number
abbrev pub numbered : ℕ → List Typed
numbered many = map (λ number. record { name = record { name = decimal number; at = 0 }; types = [] }) (range_with_len 0 many)

abbrev pub three_variables : List Typed
three_variables = typed "?x" [] ∷ typed "?y" [] ∷ typed "?z" [] ∷ []

-- (:goal (forall (?x ?y ?z) (= ?x ?x))) over a hundred objects
unfoldable pub hundred_objects : Task
hundred_objects = record {
  domain = empty_domain;
  problem = record empty_problem { objects = numbered 100; goal = part (goal.Each three_variables (goal.Plain (formula.Equal (term "?x") (term "?x")))) };
}

-- (:action a :precondition (forall (?x - t) (preference w (r ?x)))) over so many objects
abbrev pub wide_action : Action
wide_action = action "a" [] (goal.Each (typed "?x" ("t" ∷ []) ∷ []) (soft "w" (atom "r" ("?x" ∷ [])))) (effect.All [])

abbrev pub wide_task : ℕ → Task
wide_task many = record {
  domain = record empty_domain {
    kinds = kind "t" ∷ [];
    predicates = header "r" (typed "?x" ("t" ∷ []) ∷ []) ∷ [];
    actions = action "b" (typed "?x" ("t" ∷ []) ∷ []) no_goal (add "r" ("?x" ∷ [])) ∷ wide_action ∷ [];
  };
  problem = record empty_problem {
    objects = map (λ (object : Typed). record object { types = ref "t" ∷ [] }) (numbered many);
    metric = metric Minimize (count "w");
  };
}

unfoldable pub eight_objects : Task
eight_objects = wide_task 8

unfoldable pub nine_objects : Task
nine_objects = wide_task 9

-- (:action a :effect (and (p) (increase (total-cost) 2147483649))), (:metric minimize (* 2147483647 (total-cost)))
abbrev pub dear_action : Action
dear_action = action "a" [] no_goal (effect.All (add "p" [] ∷ increase_by 2147483649 ∷ []))

unfoldable pub dear : Task
dear = record {
  domain = record empty_domain { predicates = predicates ("p" ∷ []); functions = header "total-cost" [] ∷ []; actions = dear_action ∷ [] };
  problem = record empty_problem { metric = metric Minimize (num.Product 0 (num.Number (numeral 2147483647) ∷ num.TotalCost 0 ∷ [])) };
}

-- (+ 7 (* 3 (total-cost)) (* 5 (is-violated g)))
unfoldable pub sum_of_three : Num
sum_of_three = num.Sum 0 (num.Number (numeral 7) ∷ num.Product 0 (num.Number (numeral 3) ∷ num.TotalCost 0 ∷ []) ∷ weighted 5 "g" ∷ [])

pub record CountsForLimits : Type 0 where
  pub hundred_size : goal_size hundred_objects hundred_objects.problem.goal.body ≡ 1 + 100 * (100 * 100)
  pub eight_steps : step_count eight_objects ≡ 9
  pub eight_width : width eight_objects wide_action ≡ 8
  pub eight_extra : extra eight_objects (step "a" [] ∷ []) ≡ 0
  pub nine_width : width nine_objects wide_action ≡ 9
  pub nine_extra : extra nine_objects (step "a" [] ∷ []) ≡ 10
  pub mixed_extra : extra nine_objects (step "b" ("0" ∷ []) ∷ step "a" [] ∷ []) ≡ 10
  pub wide_bound : cost_bound eight_objects wide_action ≡ pos 8
  pub dear_bound : cost_bound dear dear_action ≡ pos (2 ^ 62 - 1)
  pub drive_bound : cost_bound trucks drive ≡ pos 7
  pub drive_size : effect_size trucks drive.effect.body ≡ 4
  pub load_width : width trucks load ≡ 1
  pub load_bound : cost_bound trucks load ≡ pos 6
  pub load_size : goal_size trucks load.pre.body ≡ 9
  pub trucks_instances : instance_count trucks ≡ 5
  pub trucks_constraints : constraint_size trucks trucks.problem.constraints.body ≡ 18
  pub sum_constant : constant dear sum_of_three ≡ pos 7
  pub sum_coefficient : coefficient dear sum_of_three (codes "g") ≡ pos 5
  pub other_coefficient : coefficient dear sum_of_three (codes "h") ≡ pos 0
  pub sum_cost_coefficient : cost_coefficient dear sum_of_three ≡ pos 3
