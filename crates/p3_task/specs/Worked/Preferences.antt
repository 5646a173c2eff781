-- Worked cases on preferences, their counts and the metric.
use Rattle.std.specs.Prelude.{◌≡◌, [], ◌∷◌, length, pos, negsuc, codes, None}
use Rattle.p3_base.specs.declared.refusal.Direction.TheVariants.{Minimize, Maximize}
use Rattle.p3_task.specs.Constraints.{instances}
use Rattle.p3_task.specs.Validity.{Valid, first_fault}
use Rattle.p3_task.specs.Metrics.{violated, cost, value, loss, base_loss, weight}
use Rattle.p3_task.specs.Lifting.{steps}
use Rattle.p3_task.specs.Worked.Build.{part, atom, add, soft, soft_constraint, metric, count, weighted, numeral, kind, header, predicates, action, typed, bare_steps, no_goal, empty_domain, empty_problem}
use Rattle.p3_task.specs.declared.formula.Formula.TheVariants.{Forall, Not}
use Rattle.p3_task.specs.declared.goal.PreGoal.TheVariants as goal
use Rattle.p3_base.specs.declared.operator.Operator.TheVariants.{Always}
use Rattle.p3_task.specs.declared.constraint.Constraint.TheVariants as constraint
use Rattle.p3_task.specs.declared.metric.Num.TheVariants as num
use Rattle.p3_task.specs.declared.task.Task.{Task}

-- ---- a type without objects

-- (:goal (and (forall (?x - t) (preference g (p ?x))) (preference h (forall (?x - t) (p ?x)))))
unfoldable pub empty_type : Task
empty_type = record {
  domain = record empty_domain { kinds = kind "t" ∷ []; predicates = header "p" (typed "?x" [] ∷ []) ∷ [] };
  problem = record empty_problem {
    goal = part (goal.Both (goal.Each (typed "?x" ("t" ∷ []) ∷ []) (soft "g" (atom "p" ("?x" ∷ []))) ∷ soft "h" (Forall (typed "?x" ("t" ∷ []) ∷ []) (atom "p" ("?x" ∷ []))) ∷ []));
  };
}

pub record ATypeMayHaveNoObjects : Type 0 where
  pub steps : length (steps empty_type) ≡ 0
  pub instances : length (instances empty_type) ≡ 1
  pub valid : Valid empty_type []
  pub outside : violated empty_type [] (codes "g") ≡ 0
  pub inside : violated empty_type [] (codes "h") ≡ 0
  pub value : value empty_type [] ≡ pos 0

-- ---- one name in three places

-- (:constraints (preference g (always (q)))) of the domain, :precondition (preference g (q)), (:goal (preference g (not (p))))
unfoldable pub three_places : Task
three_places = record {
  domain = record empty_domain {
    predicates = predicates ("p" ∷ "q" ∷ []);
    constraints = part (soft_constraint "g" (constraint.Single (Always (atom "q" []))));
    actions = action "a" [] (soft "g" (atom "q" [])) (add "p" []) ∷ [];
  };
  problem = record empty_problem { goal = part (soft "g" (Not (atom "p" []))); metric = metric Minimize (count "g") };
}

pub record CountsOfOneNameAdd : Type 0 where
  pub valid : first_fault three_places (bare_steps ("a" ∷ "a" ∷ "a" ∷ [])) ≡ None
  pub cost : cost three_places (bare_steps ("a" ∷ "a" ∷ "a" ∷ [])) ≡ 0
  pub count : violated three_places (bare_steps ("a" ∷ "a" ∷ "a" ∷ [])) (codes "g") ≡ 5
  pub value : value three_places (bare_steps ("a" ∷ "a" ∷ "a" ∷ [])) ≡ pos 5
  pub instances : length (instances three_places) ≡ 2

-- ---- great values are better

-- (:metric maximize (- 100 (* 3 (is-violated g))))
unfoldable pub rewarded : Task
rewarded = record {
  domain = record empty_domain { predicates = predicates ("p" ∷ []); actions = action "a" [] no_goal (add "p" []) ∷ [] };
  problem = record empty_problem { goal = part (soft "g" (atom "p" [])); metric = metric Maximize (num.Sub 0 (num.Number (numeral 100)) (weighted 3 "g")) };
}

pub record GreatValuesMayBeBetter : Type 0 where
  pub base : base_loss rewarded ≡ negsuc 99
  pub weight : weight rewarded (codes "g") ≡ pos 3
  pub count_without : violated rewarded [] (codes "g") ≡ 1
  pub value_without : value rewarded [] ≡ pos 97
  pub loss_without : loss rewarded [] ≡ negsuc 96
  pub count_with : violated rewarded (bare_steps ("a" ∷ [])) (codes "g") ≡ 0
  pub value_with : value rewarded (bare_steps ("a" ∷ [])) ≡ pos 100
