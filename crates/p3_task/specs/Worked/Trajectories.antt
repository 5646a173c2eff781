-- Worked cases on the operators over visited states.
use Rattle.std.specs.Prelude.{◌≡◌, ℕ, List, [], ◌∷◌, pos, codes}
use Prim.Native.String.{String}
use Rattle.p3_base.specs.declared.refusal.Direction.TheVariants.{Minimize}
use Rattle.p3_task.specs.Plans.{Plan}
use Rattle.p3_task.specs.Validity.{Valid}
use Rattle.p3_task.specs.Metrics.{violated, value}
use Rattle.p3_task.specs.Worked.Build.{part, atom, add, del, soft_constraint, metric, count, predicates, action, facts, bare_steps, no_goal, empty_domain, empty_problem}
use Rattle.p3_task.specs.declared.effect.Effect.TheVariants as effect
use Rattle.p3_base.specs.declared.operator.Operator.TheVariants.{AtMostOnce, SometimeAfter, SometimeBefore}
use Rattle.p3_task.specs.declared.constraint.Constraint.TheVariants as constraint
use Rattle.p3_task.specs.declared.task.Init.{Init}
use Rattle.p3_task.specs.declared.task.Task.{Task}

-- a valid plan that violates a preference so often
pub record Violates (T : Task) (plan : Plan) (name : String) (times : ℕ) : Type 0 where
  pub valid : Valid T plan
  pub count : violated T plan (codes name) ≡ times
  pub value : value T plan ≡ pos times

-- ---- `sometime-before` wants an earlier state

-- (:constraints (preference b (sometime-before (p) (q))))
unfoldable pub both_at_once : Task
both_at_once = record {
  domain = record empty_domain { predicates = predicates ("p" ∷ "q" ∷ []) };
  problem = record empty_problem {
    init = facts ("p" ∷ "q" ∷ []);
    constraints = part (soft_constraint "b" (constraint.Single (SometimeBefore (atom "p" []) (atom "q" []))));
    metric = metric Minimize (count "b");
  };
}

abbrev pub TheSameStateIsNotBefore : Type 0
TheSameStateIsNotBefore = Violates both_at_once [] "b" 1

-- ---- `at-most-once`

-- (:constraints (preference o (at-most-once (p)))), with actions that set and clear (p)
unfoldable pub switched : List Init → Task
switched entries = record {
  domain = record empty_domain { predicates = predicates ("p" ∷ []); actions = action "on" [] no_goal (add "p" []) ∷ action "off" [] no_goal (del "p" []) ∷ [] };
  problem = record empty_problem {
    init = entries;
    constraints = part (soft_constraint "o" (constraint.Single (AtMostOnce (atom "p" []))));
    metric = metric Minimize (count "o");
  };
}

-- the names say in which states (p) holds
pub record AtMostOnceMeansOneStretch : Type 0 where
  pub at_1101 : Violates (switched (facts ("p" ∷ []))) (bare_steps ("on" ∷ "off" ∷ "on" ∷ [])) "o" 1
  pub at_0110 : Violates (switched []) (bare_steps ("on" ∷ "on" ∷ "off" ∷ [])) "o" 0
  pub at_1 : Violates (switched (facts ("p" ∷ []))) [] "o" 0

-- ---- `sometime-after`

-- (:constraints (preference c (sometime-after (f) (g)))), with actions that set both, and (f) alone
unfoldable pub answered : Task
answered = record {
  domain = record empty_domain { predicates = predicates ("f" ∷ "g" ∷ []); actions = action "a" [] no_goal (effect.All (add "f" [] ∷ add "g" [] ∷ [])) ∷ action "b" [] no_goal (add "f" []) ∷ [] };
  problem = record empty_problem {
    constraints = part (soft_constraint "c" (constraint.Single (SometimeAfter (atom "f" []) (atom "g" []))));
    metric = metric Minimize (count "c");
  };
}

pub record SometimeAfterMeansThenOrLater : Type 0 where
  pub then : Violates answered (bare_steps ("a" ∷ [])) "c" 0
  pub never : Violates answered (bare_steps ("b" ∷ [])) "c" 1
  pub later : Violates answered (bare_steps ("b" ∷ "a" ∷ [])) "c" 0
  pub still : Violates answered (bare_steps ("a" ∷ "b" ∷ [])) "c" 0
