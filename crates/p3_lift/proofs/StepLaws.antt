-- Lifted steps, one more.
use Rattle.std.proofs.Common.{◌≡◌, ◌∙◌, ℕ, ◌+◌, ◌<◌, ◌≤◌, List, [], ◌∷◌, ◌++◌, length, take, get_or, sym, ap, subst, arith, Option, Some, None}
use Rattle.std.specs.Prelude.{IfSome, filter_map, option_and_then, slice_get}
use Rattle.std.specs.List.{cons_option}
use Rattle.std.proofs.lemmas.List.{append-nil, take_all, take_more}
use Rattle.std.proofs.lemmas.List.Elements.{filter_map-append}
use Rattle.std.proofs.lemmas.Slice.Zip.{AllZip-long}
use Rattle.p3_task.specs.Lifting.{lift, lifted_step, steps}
use Rattle.p3_task.specs.Plans.{Plan}
use Rattle.p3_task.specs.declared.task.Step.{Step}
use Rattle.p3_task.specs.StepNumbers.{HasNumber}
use Rattle.p3_task.specs.declared.task.Task.{Task}
use Rattle.p3_types.specs.declared.finding.Found.{Found}
use Rattle.p3_ground.specs.PlansByNumber.{AreNumbers}
use Rattle.p3_run.specs.Runs.{most_steps}
use Rattle.p3_eval.specs.Judged.{found_count}
use Rattle.p3_eval.specs.Steps.{AreOfPlan}
use Rattle.p3_eval.specs.declared.steps.Steps.{Steps}
use Rattle.p3_eval.proofs.JudgeLemmas.{numbers_more}
use Rattle.p3_lift.specs.Judging.{AreCopied}
use Rattle.p3_lift.proofs.NumberLaws.{step_at, there}

module _ (T : Task) where
  lift_more : (plan : Plan) (place : ℕ) (written : Step) → place < length plan → written ≡ get_or plan place written → lift T (take place plan) ++ cons_option (lifted_step T written) [] ≡ lift T (take (place + 1) plan)
  unfolding lift
  lift_more plan place written within read =
      sym (filter_map-append (lifted_step T) (take place plan) (written ∷ []))
      ∙ ap (filter_map (lifted_step T)) (sym (take_more plan place written within ∙ ap (λ item. take place plan ++ item ∷ []) (sym read)))

  short : (plan : Plan) → length (filter_map (lifted_step T) plan) ≤ length plan
  short [] = omega arith
  short (written ∷ plan) = by (lifted_step T written) (short plan)
    where
      by : (o : Option Step) → length (filter_map (lifted_step T) plan) ≤ length plan → length (cons_option o (filter_map (lifted_step T) plan)) ≤ length (written ∷ plan)
      by None rest = omega (arith, rest)
      by (Some step) rest = omega (arith, rest)

  -- no step is put in
  pub lift_is_short : (plan : Plan) → length (lift T plan) ≤ length plan
  unfolding lift
  lift_is_short plan = short plan

-- ---- the numbers of the steps as which written steps count

module _ (T : Task) (plan : Plan) where
  copied_more : (place : ℕ) (written : Step) (numbers new : List ℕ) (number : Option ℕ) → place < length plan → written ≡ get_or plan place written → AreNumbers T (lift T (take place plan)) numbers
      → lifted_step T written ≡ option_and_then (slice_get (steps T)) number → IfSome number (λ n. n < length (steps T)) → new ≡ numbers ++ cons_option number [] → AreNumbers T (lift T (take (place + 1) plan)) new
  copied_more place written numbers new number within read are counts low is =
      subst (AreNumbers T (lift T (take (place + 1) plan))) (sym is)
      (subst (λ list. AreNumbers T list (numbers ++ cons_option number [])) (lift_more T plan place written within read) (by number counts low))
    where
      by : (number : Option ℕ) → lifted_step T written ≡ option_and_then (slice_get (steps T)) number → IfSome number (λ n. n < length (steps T))
          → AreNumbers T (lift T (take place plan) ++ cons_option (lifted_step T written) []) (numbers ++ cons_option number [])
      by None counts low =
          subst (λ o. AreNumbers T (lift T (take place plan) ++ cons_option o []) (numbers ++ [])) (sym counts)
          (subst (λ list. AreNumbers T list (numbers ++ [])) (sym (append-nil (lift T (take place plan)))) (subst (AreNumbers T (lift T (take place plan))) (sym (append-nil numbers)) are))
      by (Some n) counts low =
          let (step, at) = there (steps T) n low in
          subst (λ o. AreNumbers T (lift T (take place plan) ++ cons_option o []) (numbers ++ n ∷ [])) (sym (counts ∙ at)) (numbers_more T (lift T (take place plan)) numbers step n are at)

module _ (T U : Task) (numbers : List ℕ) where
  -- of the first written steps
  abbrev pub AreSoFar : ℕ → List ℕ → Type 0
  AreSoFar place copied = (plan : Plan) → AreNumbers U plan numbers → AreNumbers T (lift T (take place plan)) copied

  pub copied_none : (copied : List ℕ) → copied ≡ [] → AreSoFar 0 copied
  unfolding lift
  copied_none copied none plan are = subst (AreNumbers T []) (sym none) tt

  pub copied_next : (place : ℕ) (copied new : List ℕ) (number : Option ℕ) → place < length numbers → AreSoFar place copied
      → ((step : Step) → HasNumber U step (get_or numbers place 0) → lifted_step T step ≡ option_and_then (slice_get (steps T)) number) → IfSome number (λ n. n < length (steps T))
      → new ≡ copied ++ cons_option number [] → AreSoFar (place + 1) new
  copied_next place copied new number low so_far counts few is plan are =
      let at = step_at U plan numbers place are low in
      copied_more T plan place at.step copied new number at.within at.is (so_far plan are) (counts at.step at.has) few is

  pub copied_all : (place : ℕ) (copied : List ℕ) → length numbers ≤ place → AreSoFar place copied → AreCopied T U numbers copied
  copied_all place copied past so_far plan are =
      let long = AllZip-long (HasNumber U) plan numbers are in
      subst (λ list. AreNumbers T (lift T list) copied) (take_all place plan (omega (arith, long, past))) (so_far plan are)

-- they are no more than the written steps
pub few_copied : (T U : Task) (steps : Steps) (copied : List ℕ) → AreOfPlan U steps → AreCopied T U steps.numbers.items copied → length copied ≤ most_steps
few_copied T U steps copied some counted =
    let front = some.are.front in
    let long = AllZip-long (HasNumber U) front steps.numbers.items some.are.are in
    let also = AllZip-long (HasNumber T) (lift T front) copied (counted front some.are.are) in
    let short = lift_is_short T front in
    let few = by steps.rest steps.few in
    omega (arith, long, also, short, few)
  where
    by : (rest : Option Found) → found_count steps.numbers.items rest ≤ most_steps → length steps.numbers.items ≤ most_steps
    by None few = few
    by (Some found) few = omega (arith, few)
