-- The text of a lifted plan by the numbers of its steps, a line more.
use Rattle.std.proofs.Common.{◌≡◌, ◌∙◌, ℕ, ◌+◌, ◌<◌, List, [], ◌∷◌, ◌++◌, length, take, get_or, sym, ap}
use Rattle.std.proofs.lemmas.List.{append-nil}
use Rattle.std.proofs.lemmas.Grind.{flat_map-append}
use Rattle.p3_task.specs.StepNumbers.{HasNumber}
use Rattle.p3_task.specs.declared.task.Step.{Step}
use Rattle.p3_task.specs.declared.task.Task.{Task}
use Rattle.p3_plans.specs.Layout.{plan_layout, step_layout}
use Rattle.p3_lift.specs.Lifting.{numbered_steps}
use Rattle.p3_lift.proofs.NumberLaws.{numbered_more, numbered_one}

module _ (T : Task) where
  pub one_line : (number : ℕ) (step : Step) → HasNumber T step number → step_layout step ≡ plan_layout (numbered_steps T (number ∷ []))
  one_line number step has = sym (append-nil (step_layout step)) ∙ ap plan_layout (sym (numbered_one T number step has))

  pub lines_more : (numbers : List ℕ) (place : ℕ) (text new : List ℕ) → place < length numbers → text ≡ plan_layout (numbered_steps T (take place numbers))
      → new ≡ text ++ plan_layout (numbered_steps T (get_or numbers place 0 ∷ [])) → new ≡ plan_layout (numbered_steps T (take (place + 1) numbers))
  lines_more numbers place text new low so_far is =
      let last = numbered_steps T (get_or numbers place 0 ∷ []) in
      is ∙ ap (λ before. before ++ plan_layout last) so_far ∙ sym (flat_map-append step_layout (numbered_steps T (take place numbers)) last) ∙ ap plan_layout (sym (numbered_more T numbers place low))
