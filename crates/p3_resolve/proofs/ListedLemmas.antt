-- The lists of types in the trees of a task.
use Rattle.std.proofs.Common.{◌≡◌, ◌∙◌, Bool, true, false, ◌&&◌, Option, Some, None, List, [], ◌∷◌, ◌++◌, refl, sym, ap}
use Rattle.std.specs.Prelude.{flat_map}
use Rattle.std.specs.List.{list_all}
use Rattle.std.proofs.lemmas.List.{append-nil, map-append}
use Rattle.std.proofs.lemmas.List.Folds.{list_all-append}
use denote.Ref.{Bor}
use mathlib.Core.Former.{Count}
use Rattle.p3_task.specs.Uses.{goal_uses, constraint_uses, num_layer, num_uses, metric_uses, init_uses, problem_uses, action_uses}
use Rattle.p3_task.specs.Folds.{fold_nums}
use Rattle.p3_numbers.specs.Known.{tree_uses}
use Rattle.p3_task.specs.declared.metric.Metric.{Metric}
use Rattle.p3_task.specs.declared.metric.Num.{Num, Row_of-Num, end_of-Num, more_of-Num}
use Rattle.p3_task.specs.declared.metric.Num.TheVariants as num
use Rattle.p3_task.specs.declared.task.Domain.{Domain}
use Rattle.p3_task.specs.declared.task.Init.{Init}
use Rattle.p3_task.specs.declared.task.Init.TheVariants as init
use Rattle.p3_task.specs.declared.task.Problem.{Problem}
use Rattle.p3_task.specs.declared.task.Task.{Task}
use Rattle.p3_task.specs.declared.term.Ref.{Ref}
use Rattle.p3_resolve.proofs.GatherLemmas.{lists_of-append, lists_of-each}
use Rattle.p3_resolve.specs.Listed.{lists_in, lists_of, goal_lists, constraint_lists, action_lists, domain_lists, problem_lists, task_lists}

-- nothing is declared in a metric or in the initial state
mutual
  unfolding num_uses

  num-none : (tree : Num) → lists_of (num_uses tree) ≡ []
  num-none (num.Number numeral) = refl
  num-none (num.TotalCost at) = refl
  num-none (num.Violated name) = refl
  num-none (num.Neg' at _ (more_of-Num part _)) = num-none part
  num-none (num.Sub' at _ (more_of-Num first _) _ (more_of-Num second _)) =
      lists_of-append (num_uses first) (num_uses second) ∙ (λ i. num-none first i ++ num-none second i)
  num-none (num.Sum' at _ parts) = nums-none parts
  num-none (num.Product' at _ parts) = nums-none parts

  nums-none : {n : Count} (parts : Row_of-Num n) → lists_of (flat_map (λ part. part) (fold_nums num_layer parts)) ≡ []
  nums-none end_of-Num = refl
  nums-none (more_of-Num part rest) =
      lists_of-append (num_uses part) (flat_map (λ found. found) (fold_nums num_layer rest)) ∙ (λ i. num-none part i ++ nums-none rest i)

metric-none : (metric : Option Metric) → lists_of (metric_uses metric) ≡ []
metric-none None = refl
metric-none (Some metric) = num-none metric.body

entry-none : (entry : Init) → lists_of (init_uses entry) ≡ []
entry-none (init.True pred args) = refl
entry-none (init.False pred args) = refl
entry-none (init.Value function args number) = refl

entries-none : (entries : List Init) → lists_of (flat_map init_uses entries) ≡ []
entries-none [] = refl
entries-none (entry ∷ entries) = lists_of-append (init_uses entry) (flat_map init_uses entries) ∙ (λ i. entry-none entry i ++ entries-none entries i)

-- ---- the trees of a task in another order

and-turn : (a b : Bool) → (a && b) ≡ (b && a)
and-turn true true = refl
and-turn true false = refl
and-turn false true = refl
and-turn false false = refl

problem-lists : (P : Problem) → lists_of (problem_uses P) ≡ goal_lists P.goal.body ++ constraint_lists P.constraints.body
unfolding problem_uses goal_lists constraint_lists
problem-lists P =
    let entries = flat_map init_uses P.init in
    let goal_part = goal_uses P.goal.body [] in
    let constraint_part = constraint_uses P.constraints.body [] in
    lists_of-append (entries ++ goal_part ++ constraint_part) (metric_uses P.metric)
    ∙ (λ i. lists_of-append (entries ++ goal_part) constraint_part i ++ metric-none P.metric i) ∙ append-nil _
    ∙ (λ i. (lists_of-append entries goal_part ∙ (λ j. entries-none P.init j ++ lists_of goal_part)) i ++ lists_of constraint_part)

domain-lists : (D : Domain) → lists_of (constraint_uses D.constraints.body [] ++ flat_map action_uses D.actions) ≡ domain_lists D
unfolding constraint_lists action_lists
domain-lists D = lists_of-append (constraint_uses D.constraints.body []) (flat_map action_uses D.actions) ∙ ap (λ rest. lists_of (constraint_uses D.constraints.body []) ++ rest) (lists_of-each action_uses D.actions)

pub all-lists : (test : List Ref → Bool) (T : Task) → list_all test (lists_of (tree_uses T)) ≡ list_all test (task_lists T)
all-lists test T =
    let P = T.problem in
    let first = constraint_uses T.domain.constraints.body [] ++ flat_map action_uses T.domain.actions in
    ap (list_all test) (lists_of-append first (problem_uses P) ∙ (λ i. domain-lists T.domain i ++ problem-lists P i))
    ∙ list_all-append test (domain_lists T.domain) (goal_lists P.goal.body ++ constraint_lists P.constraints.body)
    ∙ ap (λ rest. list_all test (domain_lists T.domain) && rest)
    (list_all-append test (goal_lists P.goal.body) (constraint_lists P.constraints.body) ∙ and-turn (list_all test (goal_lists P.goal.body)) (list_all test (constraint_lists P.constraints.body))
    ∙ sym (list_all-append test (constraint_lists P.constraints.body) (goal_lists P.goal.body)))
    ∙ sym (list_all-append test (domain_lists T.domain) (problem_lists P))

module _ (lists now : List (Bor (List Ref))) where
  pub lists-joined : (more : List (Bor (List Ref))) → now ≡ lists ++ more → lists_in now ≡ lists_in lists ++ lists_in more
  lists-joined more is = ap lists_in is ∙ map-append (λ (types : Bor (List Ref)). types.now) lists more

pub ruleset task_laws = (lists-joined)
