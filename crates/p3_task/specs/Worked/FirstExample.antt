-- One action, one goal preference: the task read, and the task that is written for it.
use Rattle.std.specs.Prelude.{◌≡◌, [], ◌∷◌, length, pos, codes}
use Rattle.p3_base.specs.declared.refusal.Direction.TheVariants.{Minimize}
use Rattle.p3_task.specs.Plans.{Plan}
use Rattle.p3_task.specs.Constraints.{instances}
use Rattle.p3_task.specs.Validity.{Valid}
use Rattle.p3_task.specs.Metrics.{value, loss, base_loss, weight}
use Rattle.p3_task.specs.Offences.{WellFormed}
use Rattle.p3_task.specs.Lifting.{Plain, IsVariableFree, steps, lift}
use Rattle.p3_task.specs.Worked.Build.{ref, part, atom, add, del, increase_by, soft, metric, weighted_by, numeral, header, predicates, action, facts, given, step, bare_steps, no_goal, empty_domain, empty_problem}
use Rattle.p3_task.specs.declared.formula.Formula.TheVariants.{Not}
use Rattle.p3_task.specs.declared.effect.Numeral.{Numeral}
use Rattle.p3_task.specs.declared.effect.Effect.TheVariants as effect
use Rattle.p3_task.specs.declared.goal.PreGoal.TheVariants as goal
use Rattle.p3_task.specs.declared.metric.Num.TheVariants.{TotalCost}
use Rattle.p3_task.specs.declared.task.Task.{Task}

-- (:action a :effect (p)), (:goal (preference g (p))), (:metric minimize (* 5 (is-violated g)))
abbrev pub read_by : Numeral → Task
read_by weight = record {
  domain = record empty_domain { predicates = predicates ("p" ∷ []); actions = action "a" [] no_goal (add "p" []) ∷ [] };
  problem = record empty_problem { goal = part (soft "g" (atom "p" [])); metric = metric Minimize (weighted_by weight "g") };
}

unfoldable pub read : Task
read = read_by (numeral 5)

unfoldable pub written : Task
written = record {
  domain = record empty_domain {
    name = ref "compiled";
    predicates = predicates ("f0" ∷ "go" ∷ "e0" ∷ "e1" ∷ []);
    functions = header "total-cost" [] ∷ [];
    actions = action "s0v" [] (goal.Plain (atom "go" [])) (effect.All (add "f0" [] ∷ []))
        ∷ action "finish" [] (goal.Plain (atom "go" [])) (effect.All (del "go" [] ∷ add "e0" [] ∷ []))
        ∷ action "collect0" [] (goal.Both (goal.Plain (atom "e0" []) ∷ goal.Plain (atom "f0" []) ∷ [])) (effect.All (del "e0" [] ∷ add "e1" [] ∷ []))
        ∷ action "forgo0" [] (goal.Both (goal.Plain (atom "e0" []) ∷ goal.Plain (Not (atom "f0" [])) ∷ [])) (effect.All (del "e0" [] ∷ add "e1" [] ∷ increase_by 5 ∷ []))
        ∷ [];
  };
  problem = record empty_problem {
    name = ref "compiled";
    domain = ref "compiled";
    init = given "total-cost" [] 0 ∷ facts ("go" ∷ []);
    goal = part (goal.Plain (atom "e1" []));
    metric = metric Minimize (TotalCost 0);
  };
}

abbrev pub forgoing : Plan
forgoing = bare_steps ("finish" ∷ "forgo0" ∷ [])

abbrev pub collecting : Plan
collecting = bare_steps ("s0v" ∷ "finish" ∷ "collect0" ∷ [])

pub record FirstExample : Type 0 where
  pub read_steps : steps read ≡ step "a" [] ∷ []
  pub read_instances : length (instances read) ≡ 1
  pub read_base : base_loss read ≡ pos 0
  pub read_weight : weight read (codes "g") ≡ pos 5
  pub well_formed : WellFormed written
  pub plain : Plain written
  pub variable_free : IsVariableFree written
  pub forgoing_valid : Valid written forgoing
  pub forgoing_cost : value written forgoing ≡ pos 5
  pub forgoing_lifts : lift read forgoing ≡ []
  pub forgoing_loss : loss read [] ≡ pos 5
  pub collecting_valid : Valid written collecting
  pub collecting_cost : value written collecting ≡ pos 0
  pub collecting_lifts : lift read collecting ≡ step "a" [] ∷ []
  pub collecting_loss : loss read (step "a" [] ∷ []) ≡ pos 0
