-- Lifting by the steps of a task, and by the numbers of steps.
use Rattle.std.proofs.Common.{◌≡◌, ◌∙◌, ℕ, suc, ◌+◌, sym, ap, subst, Bool, true, false, ◌&&◌, List, [], ◌∷◌, length, arith, Option, Some, None, cond}
use Rattle.std.specs.Prelude.{slice_get, find, filter_map, option_map}
use Rattle.std.specs.List.{range_with_len, enumerate_from, cons_option}
use Rattle.std.proofs.lemmas.Bool.{and_parts}
use Rattle.p3_base.specs.Copies.{is_copy_of}
use Rattle.p3_task.specs.Names.{is_empty}
use Rattle.p3_task.specs.Plans.{Plan}
use Rattle.p3_task.specs.Lifting.{steps, lifted_step, lift}
use Rattle.p3_task.specs.declared.task.Step.{Step}
use Rattle.p3_task.specs.declared.task.Task.{Task}
use Rattle.p3_formula.specs.Targets.{lifted_number, ground_lift}
use Rattle.p3_formula.specs.declared.task.GroundTask.{GroundTask}
use Rattle.p3_ground.specs.PlansByNumber.{AreNumbers, names_of, are_bare}

abbrev Agree : List Step → Option Step → Option ℕ → Type 0
Agree all None None = Unit {0}
Agree all (Some step) (Some number) = slice_get all number ≡ Some step
Agree all _ _ = ⊥

module _ (all : List Step) (bare : Bool) (is_bare : bare ≡ true) (test : ℕ → Bool) where
  found_alike : (from : ℕ) (xs : List Step) → ((k : ℕ) → slice_get xs k ≡ slice_get all (from + k))
      → Agree all (option_map (λ (numbered : ℕ × Step). numbered.1) (find (λ (numbered : ℕ × Step). bare && test numbered.0) (enumerate_from from xs))) (find test (range_with_len from (length xs)))
  found_alike from [] at = tt
  found_alike from (x ∷ xs) at = subst (λ t. Agree all (option_map (λ (numbered : ℕ × Step). numbered.1) (cond (t && test from) (Some (from, x)) (find (λ (numbered : ℕ × Step). bare && test numbered.0) (enumerate_from (from + 1) xs)))) (cond (test from) (Some from) (find test (range_with_len (from + 1) (length xs))))) (sym is_bare)
      (by (test from) (found_alike (from + 1) xs (λ k. at (suc k) ∙ ap (slice_get all) (omega arith))))
    where
      by : (t : Bool) → Agree all (option_map (λ (numbered : ℕ × Step). numbered.1) (find (λ (numbered : ℕ × Step). bare && test numbered.0) (enumerate_from (from + 1) xs))) (find test (range_with_len (from + 1) (length xs)))
          → Agree all (option_map (λ (numbered : ℕ × Step). numbered.1) (cond (true && t) (Some (from, x)) (find (λ (numbered : ℕ × Step). bare && test numbered.0) (enumerate_from (from + 1) xs)))) (cond t (Some from) (find test (range_with_len (from + 1) (length xs))))
      by true rest = ap (slice_get all) (omega arith) ∙ sym (at 0)
      by false rest = rest

module _ (T : Task) (G : GroundTask) (count : G.step_count ≡ length (steps T)) where
  step_alike : (step : Step) → is_empty step.args ≡ true → Agree (steps T) (lifted_step T step) (lifted_number G step.action)
  unfolding lifted_step
  step_alike step bare = subst (λ n. Agree (steps T) (lifted_step T step) (find (λ number. is_copy_of number step.action) (range_with_len 0 n))) (sym count)
      (found_alike (steps T) (is_empty step.args) bare (λ number. is_copy_of number step.action) 0 (steps T) (λ k. ap (slice_get (steps T)) (omega arith)))

  pub lift_alike : (written : Plan) → are_bare written ≡ true → AreNumbers T (lift T written) (ground_lift G (names_of written))
  unfolding lift ground_lift
  lift_alike [] bare = tt
  lift_alike (step ∷ written) bare = let h = and_parts _ _ bare in by (lifted_step T step) (lifted_number G step.action) (step_alike step h.0) (lift_alike written h.1)
    where
      by : (o : Option Step) (n : Option ℕ) → Agree (steps T) o n → AreNumbers T (filter_map (lifted_step T) written) (filter_map (lifted_number G) (names_of written))
          → AreNumbers T (cons_option o (filter_map (lifted_step T) written)) (cons_option n (filter_map (lifted_number G) (names_of written)))
      by None None e rest = rest
      by (Some step) (Some number) e rest = (e, rest)
      by None (Some number) e rest = absurd e
      by (Some step) None e rest = absurd e
