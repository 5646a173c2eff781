-- How the steps of a plan are found one by one.
use Rattle.std.proofs.Common.{◌≡◌, ◌∙◌, ℕ, suc, ◌+◌, ◌<◌, ◌≤◌, refl, sym, ap, subst, List, [], ◌∷◌, ◌++◌, length, get_or, take, drop, arith, Option, Some, None}
use Rattle.std.proofs.Math.Seq.{drop-cons}
use Rattle.std.proofs.lemmas.Bool.{true≢false}
use Rattle.std.proofs.lemmas.List.{append-nil, length-take, take-append-drop, take_all, take_more}
use Rattle.std.proofs.lemmas.Slice.Zip.{AllZip-long}
use Rattle.p3_task.specs.Plans.{Plan}
use Rattle.p3_task.specs.Bindings.{are_arguments}
use Rattle.p3_task.specs.StepNumbers.{HasNumber, HasStepNumbers}
use Rattle.p3_task.specs.declared.task.Action.{Action}
use Rattle.p3_task.specs.declared.task.Step.{Step}
use Rattle.p3_task.specs.declared.task.Task.{Task}
use Rattle.p3_task.proofs.OnceLemmas.{Some-injective}
use Rattle.p3_types.specs.Finds.{IsFound}
use Rattle.p3_types.specs.declared.finding.Found.{Found}
use Rattle.p3_types.specs.declared.finding.Found.TheVariants as found
use Rattle.p3_ground.specs.PlansByNumber.{AreNumbers}
use Rattle.p3_run.specs.Runs.{most_steps}
use Rattle.p3_eval.specs.Judged.{found_count}
use Rattle.p3_eval.specs.Steps.{AreFirst, GoesOnAs, LacksNumber}
use Rattle.p3_eval.proofs.JudgeLemmas.{numbers_more}

-- what is found, and is no number
pub lacks_of : (T : Task) (step : Step) (answer : Found) → ((number : ℕ) → answer ≡ found.Number number → ⊥) → IsFound T step answer → LacksNumber T step answer
lacks_of T step (found.Number number) none is = none number refl
lacks_of T step found.UnknownAction none is = is
lacks_of T step found.Arguments none is = is

-- a step that has a number is found by it
pub found_again : (T : Task) → HasStepNumbers T → (step : Step) (number : ℕ) (answer : Found) → HasNumber T step number → IsFound T step answer → answer ≡ found.Number number
found_again T K step number (found.Number own) has is = ap found.Number (K.one own number step is has)
found_again T K step number found.UnknownAction has is = absurd (let named = sym (K.own number step has).named ∙ is in cc)
found_again T K step number found.Arguments has is =
    let own = K.own number step has in
    let same = Some-injective own.action is.action (sym own.named ∙ is.named) in
    absurd (true≢false (sym own.args ∙ ap (λ (action : Action). are_arguments T action.params step.args) same ∙ is.args))

-- a plan whose steps have numbers is found whole
module _ (T : Task) (K : HasStepNumbers T) where
  at_seam : (front rest : Plan) (step : Step) (numbers : List ℕ) → AreNumbers T (front ++ step ∷ rest) numbers → (number : ℕ) × HasNumber T step number
  at_seam [] rest step [] are = absurd are
  at_seam [] rest step (number ∷ numbers) are = (number, are.0)
  at_seam (first ∷ front) rest step [] are = absurd are
  at_seam (first ∷ front) rest step (number ∷ numbers) are = at_seam front rest step numbers are.1

  has_one : (step : Step) (number : ℕ) (answer : Found) → HasNumber T step number → LacksNumber T step answer → ⊥
  has_one step number (found.Number own) has lacks = lacks
  has_one step number found.UnknownAction has lacks = let same = found_again T K step number found.UnknownAction has lacks in cc
  has_one step number found.Arguments has lacks = let same = found_again T K step number found.Arguments has lacks in cc

  module _ (plan : Plan) (all : List ℕ) (are : AreNumbers T plan all) (numbers : List ℕ) (next : Option Found) (first : AreFirst T plan numbers next) where
    pub all_numbered : AreNumbers T plan numbers
    all_numbered = by next first.behind
      where
        by : (next : Option Found) → GoesOnAs T first.rest next → AreNumbers T plan numbers
        by None ends = subst (λ list. AreNumbers T list numbers) (sym (first.parts ∙ ap (λ list. first.front ++ list) ends ∙ append-nil first.front)) first.are
        by (Some answer) (step, more, cuts, lacks) =
            let (number, has) = at_seam first.front more step all (subst (λ list. AreNumbers T list all) (first.parts ∙ ap (λ list. first.front ++ list) cuts) are) in
            absurd (has_one step number answer has lacks)

    pub few_of_all : found_count numbers next ≤ most_steps → length plan ≤ most_steps
    few_of_all few = let long = AllZip-long (HasNumber T) plan numbers all_numbered in by next few long
      where
        by : (next : Option Found) → found_count numbers next ≤ most_steps → length numbers ≡ length plan → length plan ≤ most_steps
        by None few long = omega (arith, few, long)
        by (Some answer) few long = omega (arith, few, long)

module _ (T : Task) (plan : Plan) (place : ℕ) (numbers : List ℕ) (are : AreNumbers T (take place plan) numbers) where
  module _ (step : Step) (within : place < length plan) (at : step ≡ get_or plan place step) where
    pub numbered_more : (number : ℕ) → HasNumber T step number → AreNumbers T (take (place + 1) plan) (numbers ++ number ∷ [])
    numbered_more number has =
        subst (λ list. AreNumbers T list (numbers ++ number ∷ [])) (ap (λ last. take place plan ++ last ∷ []) at ∙ sym (take_more plan place step within))
        (numbers_more T (take place plan) numbers step number are has)

    whole : plan ≡ take place plan ++ step ∷ drop (suc place) plan
    whole = sym (ap (λ list. take place plan ++ list) (ap (λ first. first ∷ drop (suc place) plan) at ∙ sym (drop-cons plan place step within)) ∙ take-append-drop place plan)

    pub stops_at : (answer : Found) → LacksNumber T step answer → AreFirst T plan numbers (Some answer)
    stops_at answer lacks = record { front = take place plan; rest = step ∷ drop (suc place) plan; parts = whole; are = are; behind = (step, drop (suc place) plan, refl, lacks) }

    pub few_before : length plan ≤ most_steps → length numbers + 1 ≤ most_steps
    few_before few =
        let long = AllZip-long (HasNumber T) (take place plan) numbers are in
        let taken = length-take place plan in
        omega (arith, within, few, long, taken)

  module _ (past : length plan ≤ place) where
    all : AreNumbers T plan numbers
    all = subst (λ list. AreNumbers T list numbers) (take_all place plan past) are

    pub ends_numbered : AreFirst T plan numbers None
    ends_numbered = record { front = plan; rest = []; parts = sym (append-nil plan); are = all; behind = refl }

    pub few_in_all : length plan ≤ most_steps → length numbers ≤ most_steps
    few_in_all few = let long = AllZip-long (HasNumber T) plan numbers all in omega (arith, few, long)
