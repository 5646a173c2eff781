-- Worked steps with many conditions.
use Rattle.std.specs.Prelude.{◌≡◌, ℕ, true, false, List, [], ◌∷◌, ◌++◌, codes, decimal, flat_map, map, option_map, option_and_then, Option, Some, slice_get}
use Rattle.std.specs.List.{range_with_len}
use Rattle.p3_base.specs.declared.refusal.Code.TheVariants.{FlatTooWide}
use Rattle.p3_base.specs.declared.refusal.Role.TheVariants as role
use Rattle.p3_task.specs.Lifting.{steps}
use Rattle.p3_task.specs.Refusals.Places.{refusal_at_word}
use Rattle.p3_tree.specs.Reports.Lines.{line}
use Rattle.p3_tree.specs.Reports.Refusals.{refusal_line}
use Rattle.p3_task.specs.Touching.{conds}
use Rattle.p3_task.specs.Unconditional.{is_unconditional}
use Rattle.p3_tree.specs.Worked.Refusals.{text_of, task_of_texts, first_domain, first_problem}
use Rattle.p3_task.specs.declared.task.Action.{Action}
use Rattle.p3_task.specs.declared.task.Task.{Task}

abbrev pub each_of : ℕ → (List ℕ → List ℕ) → List ℕ
each_of n text = flat_map (λ k. text (decimal k)) (range_with_len 1 n)

-- (:action a :effect (and (when (x1) (y1)) ..)) and (:action b ..) that deletes all xk
abbrev pub wide_domain : ℕ → List ℕ
wide_domain n =
    line (codes "(define (domain d) (:predicates" ++ each_of n (λ k. codes " (x" ++ k ++ codes ")") ++ each_of n (λ k. codes " (y" ++ k ++ codes ")") ++ codes ")")
    ++ line (codes "(:action a :effect (and" ++ each_of n (λ k. codes " (when (x" ++ k ++ codes ") (y" ++ k ++ codes "))") ++ codes "))")
    ++ line (codes "(:action b :effect (and" ++ each_of n (λ k. codes " (not (x" ++ k ++ codes "))") ++ codes ")))")

abbrev pub wide_problem : ℕ → List ℕ
wide_problem n = line (codes "(define (problem q) (:domain d) (:init" ++ each_of n (λ k. codes " (x" ++ k ++ codes ")") ++ codes ") (:goal (and)))")

abbrev pub conds_of_steps : List ℕ → List ℕ → Option (List ℕ)
conds_of_steps d p = option_map (λ T. map (conds T) (steps T)) (task_of_texts d p)

-- the line of the refusal at the name of the action of that place
abbrev pub refused_at : List ℕ → List ℕ → ℕ → Option (List ℕ)
refused_at d p place = option_map (λ (action : Action). refusal_line d (refusal_at_word FlatTooWide role.Domain action.name)) (option_and_then (λ (T : Task). slice_get T.domain.actions place) (task_of_texts d p))

-- two conditional effects and two deletes, with a constraint that both actions may touch, one over the last state, and one of a preference that a alone does
abbrev pub watched_domain : List ℕ
watched_domain = text_of ("(define (domain d) (:predicates (p) (x) (y) (z))" ∷ "(:action a :effect (and (when (x) (not (p))) (when (y) (p))))" ∷ "(:action b :effect (and (not (x)) (not (y)))))" ∷ [])

abbrev pub watched_problem : List ℕ
watched_problem = text_of ("(define (problem q) (:domain d) (:init (p) (x) (y)) (:goal (preference g (x)))" ∷ "(:constraints (and (always (or (p) (x))) (at end (p)) (preference h (sometime-after (z) (p))) (sometime (z)))))" ∷ [])

pub record ConditionsOfSteps : Type 0 where
  pub thirteen : conds_of_steps (wide_domain 13) (wide_problem 13) ≡ Some (13 ∷ 0 ∷ [])
  pub twelve : conds_of_steps (wide_domain 12) (wide_problem 12) ≡ Some (12 ∷ 0 ∷ [])
  pub line : refused_at (wide_domain 13) (wide_problem 13) 0 ≡ Some (line (codes "refused 22 flat too wide: domain 2:10 a"))
  -- two under `when`, and two operators; and one operator
  pub watched : conds_of_steps watched_domain watched_problem ≡ Some (6 ∷ 2 ∷ [])
  pub conditional : option_map is_unconditional (task_of_texts watched_domain watched_problem) ≡ Some false
  pub unconditional : option_map is_unconditional (task_of_texts first_domain first_problem) ≡ Some true
