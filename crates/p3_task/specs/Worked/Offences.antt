-- Worked cases on well-formed tasks: one offence of each kind, with its word.
use Rattle.std.specs.Prelude.{◌≡◌, [], ◌∷◌, ◌++◌}
use Rattle.p3_base.specs.declared.refusal.Direction.TheVariants.{Minimize}
use Rattle.p3_task.specs.Offences.{domain_duplicates, domain_unknowns, domain_miscounts, domain_clashes, problem_duplicates, problem_unknowns}
use Rattle.p3_task.specs.Worked.Build.{ref, typed, atom, increase_by, metric, count, given, kind, header, action, empty_domain, empty_problem}
use Rattle.p3_task.specs.declared.formula.Formula.{Formula}
use Rattle.p3_task.specs.declared.formula.Formula.TheVariants as formula
use Rattle.p3_task.specs.declared.effect.Effect.{Effect}
use Rattle.p3_task.specs.declared.effect.Effect.TheVariants as effect
use Rattle.p3_task.specs.declared.goal.PreGoal.TheVariants as goal
use Rattle.p3_task.specs.declared.task.Problem.{Problem}
use Rattle.p3_task.specs.declared.task.Task.{Task}

-- (:types t), (:constants k), (:predicates (p) (r ?x - t)) and one action
unfoldable pub with_action : Formula → Effect → Task
with_action condition change = record {
  domain = record empty_domain {
    kinds = kind "t" ∷ [];
    constants = typed "k" [] ∷ [];
    predicates = header "p" [] ∷ header "r" (typed "?x" ("t" ∷ []) ∷ []) ∷ [];
    actions = action "a" [] (goal.Plain condition) change ∷ [];
  };
  problem = empty_problem;
}

abbrev pub with_condition : Formula → Task
with_condition condition = with_action condition (effect.All [])

-- a variable twice, an undeclared predicate, too few arguments, an object of another type, a cost without its function
pub record DomainOffences : Type 0 where
  pub fine : domain_duplicates (with_condition (atom "p" [])).domain ++ domain_unknowns (with_condition (atom "p" [])) ++ domain_miscounts (with_condition (atom "p" [])) ++ domain_clashes (with_condition (atom "p" [])) ≡ []
  pub duplicate : domain_duplicates (with_condition (formula.Exists (typed "?x" [] ∷ typed "?x" [] ∷ []) (atom "p" []))).domain ≡ ref "?x" ∷ []
  pub unknown : domain_unknowns (with_condition (atom "s" [])) ≡ ref "s" ∷ []
  pub miscount : domain_miscounts (with_condition (atom "r" [])) ≡ ref "r" ∷ []
  pub clash : domain_clashes (with_condition (atom "r" ("k" ∷ []))) ≡ ref "k" ∷ []
  pub cost : domain_unknowns (with_action (atom "p" []) (increase_by 1)) ≡ ref "total-cost" ∷ []

unfoldable pub with_problem : Problem → Task
with_problem problem = record { domain = empty_domain; problem = problem }

-- a value given twice, an undeclared preference in the metric
pub record ProblemOffences : Type 0 where
  pub duplicate : problem_duplicates (record empty_problem { init = given "f" ("k" ∷ []) 1 ∷ given "f" ("l" ∷ []) 1 ∷ given "f" ("k" ∷ []) 2 ∷ [] }) ≡ ref "f" ∷ []
  pub unknown : problem_unknowns (with_problem (record empty_problem { metric = metric Minimize (count "h") })) ≡ ref "h" ∷ []
