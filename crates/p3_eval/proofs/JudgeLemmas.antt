-- How a loop over the steps of the text of a plan goes on, and what it comes to.
use Rattle.std.proofs.Common.{◌≡◌, ◌∙◌, ℕ, ◌+◌, ◌≤◌, ◌<◌, refl, sym, ap, subst, List, [], ◌∷◌, ◌++◌, length, append_assoc, arith, Option, Some, None}
use Rattle.std.specs.Prelude.{option_map}
use Rattle.std.proofs.lemmas.List.{append-nil, length-append}
use Rattle.std.proofs.lemmas.Slice.Zip.{AllZip-long}
use Rattle.p3_base.specs.declared.refusal.Refusal.{Refusal}
use Rattle.p3_task.specs.PlanTexts.{IsPlanText, plan_offence, step_limit}
use Rattle.p3_task.specs.Plans.{Plan, last_state, visited}
use Rattle.p3_task.specs.States.{State}
use Rattle.p3_task.specs.StepNumbers.{HasNumber}
use Rattle.p3_task.specs.Validity.{Misfit, UnknownAction, Arguments, first_fault, misfit}
use Rattle.p3_task.specs.declared.task.Step.{Step}
use Rattle.p3_task.specs.declared.task.Task.{Task}
use Rattle.p3_plans.specs.Laws.{AreTextsOf, HasPlan, all_of}
use Rattle.p3_plans.specs.Steps.{Left, StepText}
use Rattle.p3_plans.proofs.PlanLaws.{a_plan_where_no_offence, one_plan_at_most}
use Rattle.p3_plans.proofs.SliceLemmas.{slices_are_texts_of_steps}
use Rattle.p3_types.specs.Finds.{IsFound}
use Rattle.p3_types.specs.declared.finding.Found.TheVariants as found
use Rattle.p3_types.specs.declared.finding.Found.{Found}
use Rattle.p3_ground.specs.PlansByNumber.{AreNumbers}
use Rattle.p3_run.specs.Runs.{Ran, most_steps}
use Rattle.p3_eval.specs.Judged.{TellsOf, TellsOfFound, fault_in, ran_with}
use Rattle.p3_eval.specs.Runs.{BelongTogether, OfItsPlan}
use Rattle.p3_eval.specs.declared.fault.PlanFault.{PlanFault}
use Rattle.p3_eval.proofs.JudgeLaws.{asked_found, other_arguments, unknown}
use Rattle.p3_eval.specs.Judging.{Follows, Goes, GoesOn, HasStep, IsAskedText, IsFirstFault, IsFollowed}
use Rattle.p3_eval.specs.Steps.{AreFirst, LacksNumber}

-- ---- a step

module _ (T : Task) (step : Step) where
  fits_not : {A : Type 0} (s : State) (kind : Misfit) → misfit T s step ≡ Some kind → misfit T s step ≡ None → A
  fits_not s kind is none = absurd (let no : None ≡ Some kind = sym none ∙ is in cc)

  module _ (ran new : Ran) (front : Plan) (are : AreNumbers T front ran.plan) where
    by_fault : (found : Found) (fault : Option PlanFault) → IsFound T step found → TellsOf fault T front step → new ≡ ran_with ran found fault → Goes T ran new step fault front
    by_fault found (Some fault) is tells same = tells
    by_fault (found.Number number) None is tells same = (number, is, same)
    by_fault found.UnknownAction None is tells same = fits_not (last_state (visited T front)) UnknownAction (unknown T (last_state (visited T front)) step is) tells
    by_fault found.Arguments None is tells same = fits_not (last_state (visited T front)) Arguments (other_arguments T (last_state (visited T front)) step is) tells

-- as the step of the text is found, so it goes on
pub goes_on : (T : Task) (ran new : Ran) (text : List ℕ) (found : Found) (fault : Option PlanFault) → BelongTogether T ran.task ran.weights → IsAskedText T ran.task text
    → ((step : Step) → IsPlanText text (step ∷ []) → IsFound T step found) → TellsOfFound ran found fault → new ≡ ran_with ran found fault → GoesOn T ran new text fault
goes_on T ran new text found fault together asked finds tells same step spelled front are =
    by_fault T step ran new front are found fault (finds step spelled) (tells T together front are (asked_found T ran.task step found (asked step spelled) (finds step spelled)) step (finds step spelled)) same

-- ---- the loop

-- the plan goes on with the step of the slice
pub record IsAhead (T : Task) (plan : Plan) (numbers : List ℕ) (slice : StepText) (later : Left) : Type 0 where
  pub front : Plan
  pub step : Step
  pub rest : Plan
  pub parts : plan ≡ front ++ step ∷ rest
  pub are : AreNumbers T front numbers
  pub spelled : IsPlanText slice.text (step ∷ [])
  pub slices : AreTextsOf later.steps rest
  pub free : later.offence ≡ None

abbrev pub in_front : StepText → Left → Left
in_front slice later = record { steps = slice ∷ later.steps; offence = later.offence }

pub numbers_more : (T : Task) (front : Plan) (numbers : List ℕ) (step : Step) (number : ℕ) → AreNumbers T front numbers → HasNumber T step number → AreNumbers T (front ++ step ∷ []) (numbers ++ number ∷ [])
numbers_more T [] [] step number are has = (has, tt)
numbers_more T [] (n ∷ numbers) step number are has = absurd are
numbers_more T (first ∷ front) [] step number are has = absurd are
numbers_more T (first ∷ front) (n ∷ numbers) step number are has = (are.0, numbers_more T front numbers step number are.1 has)

module _ (T : Task) (text : List ℕ) (free : plan_offence text ≡ None) where
  pub the_plan : HasPlan text
  the_plan = (a_plan_where_no_offence text).1 free

  few_steps : (plan : Plan) → IsPlanText text plan → length plan ≤ step_limit
  few_steps plan spelled = subst (λ p. length p ≤ step_limit) (one_plan_at_most text the_plan.plan plan the_plan.spelled spelled) the_plan.few

  -- before the first step
  pub follows_first : (numbers : List ℕ) → numbers ≡ [] → Follows T text numbers (all_of text)
  follows_first numbers none plan spelled = record {
    front = [];
    rest = plan;
    parts = refl;
    are = subst (AreNumbers T []) (sym none) tt;
    slices = slices_are_texts_of_steps text plan spelled (few_steps plan spelled);
    free = free;
  }

  module _ (numbers : List ℕ) (slice : StepText) (later : Left) (follows : Follows T text numbers (in_front slice later)) where
    pub ahead : (plan : Plan) → IsPlanText text plan → IsAhead T plan numbers slice later
    unfolding AreTextsOf
    ahead plan spelled = by (follows plan spelled).rest (follows plan spelled).parts (follows plan spelled).slices
      where
        by : (rest : Plan) → plan ≡ (follows plan spelled).front ++ rest → AreTextsOf (slice ∷ later.steps) rest → IsAhead T plan numbers slice later
        by [] parts slices = absurd slices
        by (step ∷ rest) parts slices = record {
          front = (follows plan spelled).front;
          step = step;
          rest = rest;
          parts = parts;
          are = (follows plan spelled).are;
          spelled = slices.0;
          slices = slices.1;
          free = (follows plan spelled).free;
        }

    next : IsAhead T the_plan.plan numbers slice later
    next = ahead the_plan.plan the_plan.spelled

    pub has_step : HasStep slice.text
    has_step = record { step = next.step; spelled = next.spelled }

    pub has_room : length numbers < most_steps
    has_room =
        let long : length next.front ≡ length numbers = sym (AllZip-long (HasNumber T) next.front numbers next.are) in
        let whole : length the_plan.plan ≡ length next.front + length (next.step ∷ next.rest) = ap length next.parts ∙ length-append next.front (next.step ∷ next.rest) in
        let few : length the_plan.plan ≤ step_limit = the_plan.few in
        omega (arith, long, whole, few)

    one_more : (plan : Plan) (it : IsAhead T plan numbers slice later) (number : ℕ) → HasNumber T it.step number → (new : List ℕ) → new ≡ numbers ++ number ∷ [] → IsFollowed T plan new later
    one_more plan it number has new is = record {
      front = it.front ++ it.step ∷ [];
      rest = it.rest;
      parts = it.parts ∙ sym (append_assoc it.front (it.step ∷ []) it.rest);
      are = subst (AreNumbers T (it.front ++ it.step ∷ [])) (sym is) (numbers_more T it.front numbers it.step number it.are has);
      slices = it.slices;
      free = it.free;
    }

    -- behind a step that has a number
    pub follows_number : (number : ℕ) → ((step : Step) → IsPlanText slice.text (step ∷ []) → HasNumber T step number) → Follows T text (numbers ++ number ∷ []) later
    follows_number number finds plan spelled = let it = ahead plan spelled in one_more plan it number (finds it.step it.spelled) (numbers ++ number ∷ []) refl

    -- at a step that has none
    pub ends_at : (answer : Found) → ((step : Step) → IsPlanText slice.text (step ∷ []) → LacksNumber T step answer) → (plan : Plan) → IsPlanText text plan → AreFirst T plan numbers (Some answer)
    ends_at answer lacks plan spelled =
        let it = ahead plan spelled in
        record { front = it.front; rest = it.step ∷ it.rest; parts = it.parts; are = it.are; behind = (it.step, it.rest, refl, lacks it.step it.spelled) }

    -- the same of a run that does the steps
    module _ (ran new : Ran) (same : ran.plan ≡ numbers) where
      -- behind a step that was done
      pub follows_more : GoesOn T ran new slice.text None → Follows T text new.plan later
      follows_more goes plan spelled =
          let it : IsAhead T plan numbers slice later = ahead plan spelled in
          let (number, has, is) = goes it.step it.spelled it.front (subst (AreNumbers T it.front) (sym same) it.are) in
          one_more plan it number has new.plan (ap (λ (r : Ran). r.plan) is ∙ ap (λ list. list ++ number ∷ []) same)

      -- at a step that does not fit
      pub fault_here : (told : PlanFault) → GoesOn T ran new slice.text (Some told) → IsFirstFault T text (Some told)
      fault_here told goes plan spelled =
          let it : IsAhead T plan numbers slice later = ahead plan spelled in
          ap (first_fault T) it.parts ∙ goes it.step it.spelled it.front (subst (AreNumbers T it.front) (sym same) it.are) it.rest

  -- behind the last step
  module _ (numbers : List ℕ) (left : Left) (none : left.steps ≡ []) (follows : Follows T text numbers left) where
    pub all_done : (plan : Plan) → IsPlanText text plan → AreNumbers T plan numbers
    unfolding AreTextsOf
    all_done plan spelled = by (follows plan spelled).rest (follows plan spelled).parts (subst (λ steps. AreTextsOf steps (follows plan spelled).rest) none (follows plan spelled).slices)
      where
        by : (rest : Plan) → plan ≡ (follows plan spelled).front ++ rest → AreTextsOf [] rest → AreNumbers T plan numbers
        by [] parts slices = subst (λ p. AreNumbers T p numbers) (sym (parts ∙ append-nil (follows plan spelled).front)) (follows plan spelled).are
        by (step ∷ rest) parts slices = absurd slices

    pub few_in_all : length numbers ≤ most_steps
    few_in_all =
        let long = AllZip-long (HasNumber T) the_plan.plan numbers (all_done the_plan.plan the_plan.spelled) in
        let few : length the_plan.plan ≤ step_limit = the_plan.few in
        omega (arith, long, few)

    pub ends : (plan : Plan) → IsPlanText text plan → AreFirst T plan numbers None
    ends plan spelled = record { front = plan; rest = []; parts = sym (append-nil plan); are = all_done plan spelled; behind = refl }

  pub fault_behind : (ran : Ran) (left : Left) → left.steps ≡ [] → Follows T text ran.plan left → (found : Option PlanFault) → OfItsPlan ran (λ T plan. first_fault T plan ≡ option_map fault_in found) → BelongTogether T ran.task ran.weights → IsFirstFault T text found
  fault_behind ran left none follows found says together plan spelled = says T together plan (all_done ran.plan left none follows plan spelled)

  -- the text has no offence
  pub not_refused : (numbers : List ℕ) (left : Left) (refusal : Refusal) → left.offence ≡ Some refusal → Follows T text numbers left → ⊥
  not_refused numbers left refusal is follows = let no : None ≡ Some refusal = sym (follows the_plan.plan the_plan.spelled).free ∙ is in cc
