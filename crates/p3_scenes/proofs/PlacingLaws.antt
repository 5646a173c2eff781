-- Steps by number, item by item.
use Rattle.std.proofs.Common.{◌≡◌, ◌∙◌, ℕ, List, [], ◌∷◌, sym, ap}
use Rattle.std.specs.List.{AllZip}
use Rattle.p3_task.proofs.OnceLemmas.{Some-injective}
use Rattle.p3_task.specs.Plans.{action_named}
use Rattle.p3_task.specs.StepNumbers.{HasNumber}
use Rattle.p3_task.specs.declared.task.Step.{Step}
use Rattle.p3_task.specs.declared.task.Task.{Task}
use Rattle.p3_numbers.specs.Slots.{object_names}
use Rattle.p3_numbers.specs.declared.task.NumberedTask.{NumberedTask}
use Rattle.p3_types.specs.Finds.{IsStepAt}
use Rattle.p3_reasons.specs.Visits.{IsPlaced}

pub placed-is : (T : Task) (X : NumberedTask) (number place : ℕ) (objects : List ℕ) → IsStepAt T X.numbers number place objects → (step : Step) → HasNumber T step number → IsPlaced T X step (record { action = place; objects = objects })
placed-is T X number place objects is step has =
    let same : record { action = is.action.name.name; args = object_names X.numbers objects } ≡ step = Some-injective _ step (sym is.step ∙ has) in
    record {
      action = is.action;
      at = is.at;
      named = ap (λ (one : Step). action_named T one.action) (sym same) ∙ is.named;
      fills = is.fills;
      args = ap (λ (one : Step). one.args) same;
    }

-- what is so through a number is so along the list
pub zip-through : {A B C : Type 0} (R : A → B → Type 0) (Q : A → C → Type 0) (first : List A) (between : List B) (last : List C) → AllZip R first between → AllZip (λ b c. (a : A) → R a b → Q a c) between last → AllZip Q first last
zip-through R Q [] [] [] there on = tt
zip-through R Q [] [] (c ∷ last) there on = absurd on
zip-through R Q [] (b ∷ between) last there on = absurd there
zip-through R Q (a ∷ first) [] last there on = absurd there
zip-through R Q (a ∷ first) (b ∷ between) [] there on = absurd on
zip-through R Q (a ∷ first) (b ∷ between) (c ∷ last) there on = (on.0 a there.0, zip-through R Q first between last there.1 on.1)
