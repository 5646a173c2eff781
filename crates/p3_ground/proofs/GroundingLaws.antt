-- What is put together of the steps that may begin is a grounding, without the steps that fit over no closed set of atoms.
use Rattle.std.proofs.Common.{◌≡◌, ℕ, Bool, true, false, List, None, refl, sym, subst, true≢false}
use Rattle.std.specs.Prelude.{IsSome}
use Rattle.std.specs.List.{All}
use Rattle.std.proofs.lemmas.List.Elements.{All-weaker}
use Rattle.p3_task.specs.Plans.{Reached}
use Rattle.p3_task.specs.States.{State}
use Rattle.p3_task.specs.StepNumbers.{HasStepNumbers}
use Rattle.p3_task.specs.declared.state.Fact.{Fact}
use Rattle.p3_task.specs.declared.task.Step.{Step}
use Rattle.p3_task.specs.declared.task.Task.{Task}
use Rattle.p3_task.proofs.StepNumberLaws.{steps_have_numbers}
use Rattle.p3_formula.specs.GroundPlans.{step_of}
use Rattle.p3_formula.specs.declared.task.GroundTask.{GroundTask}
use Rattle.p3_numbers.specs.Tasks.{numbered_action}
use Rattle.p3_numbers.specs.declared.task.NumberedTask.{NumberedTask}
use Rattle.p3_expansion.specs.declared.statics.Statics.{Statics}
use Rattle.p3_steps.specs.Possible.{may_begin}
use Rattle.p3_ground.specs.Expanded.{IsStepAt, OfExpanded, StandsWithLittle, choice_of, facts_of}
use Rattle.p3_ground.specs.Grounding.{KeepsAt, LeavesOutThere, LeavesOutWhatNeverBegins, MayBegin, IsGroundingOverReached}
use Rattle.p3_ground.specs.Sparse.{AtItsStep, HasPossibleConjuncts, StepsHavePossibleConjuncts}
use Rattle.p3_ground.specs.StandsFor.{can_begin}
use Rattle.p3_ground.specs.StepParts.{IsKnownWhole, IsSomeChoice}
use Rattle.p3_ground.proofs.PrunedSparse.{pruned-sparse}
use Rattle.p3_ground.proofs.Pruning.{pruned_stands, pruned_leaves_out}
use Rattle.p3_ground.proofs.PutTogether.{what-is-put-together-stands}
use Rattle.p3_ground.proofs.StepChoices.{numbers-are-choices}
use Rattle.p3_ground.proofs.StepConjuncts.{wants-what-is-possible}
use Rattle.p3_ground.proofs.StepParts.{never-begins}

module _ (T : Task) (X : NumberedTask) (S : Statics) (G : GroundTask) (number : ℕ) (whole : IsKnownWhole T X S) (keeps : KeepsAt T X S G number) where
  unfit : (step : Step) → IsSomeChoice T X.numbers number step → step_of G number ≡ None → (s : State) → Reached T s → can_begin T s step ≡ false
  unfit step chosen none s reached = by (may_begin X.numbers S (choice_of X.numbers chosen.action chosen.rest) (numbered_action X.numbers chosen.action).pre) refl
    where
      by : (may : Bool) → may_begin X.numbers S (choice_of X.numbers chosen.action chosen.rest) (numbered_action X.numbers chosen.action).pre ≡ may → can_begin T s step ≡ false
      by true may =
          let there : IsSome (step_of G number) = keeps chosen.place chosen.rest chosen.action chosen.here chosen.within chosen.number_is may in
          absurd (true≢false (sym (subst (λ o. IsSome o) none there)))
      by false cannot =
          never-begins T X S chosen.action (choice_of X.numbers chosen.action chosen.rest) step whole (subst (IsStepAt T X.numbers chosen.action (choice_of X.numbers chosen.action chosen.rest)) (sym chosen.step_is) chosen.is.at) cannot s reached

pub leaves-out-there : LeavesOutThere
leaves-out-there T X S G number whole keeps step has none s reached = unfit T X S G number whole keeps step (numbers-are-choices T X number step whole.well whole.numbered has) none s reached

pub leaves-out-what-never-begins : LeavesOutWhatNeverBegins
leaves-out-what-never-begins T X S G whole keeps number =
    leaves-out-there T X S G number whole (λ place rest action here within is may. subst (λ n. IsSome (step_of G n)) is (keeps place rest action here within may))

-- kept steps that may begin want what is possible
pub have-possible-conjuncts : (T : Task) (X : NumberedTask) (S : Statics) → IsKnownWhole T X S → (G : GroundTask) → All (MayBegin T X S) G.steps → StepsHavePossibleConjuncts T G
have-possible-conjuncts T X S whole G may =
    All-weaker (MayBegin T X S) (AtItsStep T (λ step made. HasPossibleConjuncts T step)) (λ made one. record { step = one.step; number = one.number; says = wants-what-is-possible T X S one.action one.slots one.step whole one.at one.may }) G.steps may

pub is-grounding : OfExpanded IsGroundingOverReached
is-grounding T X S atoms ex G set together left_out may closed least =
    let facts : List Fact = facts_of X.numbers atoms in
    let little : StandsWithLittle T facts G = what-is-put-together-stands T X S atoms ex G together in
    let K : HasStepNumbers T = steps_have_numbers T ex.well in
    let whole : IsKnownWhole T X S = record { well = ex.well; numbered = ex.numbered; statics = ex.statics } in
    record {
      atoms = facts;
      stands = pruned_stands T facts G set little.stands;
      left_out = pruned_leaves_out T facts G little.stands left_out K set closed;
      sparse = pruned-sparse T facts G set little.changes little.constraints (have-possible-conjuncts T X S whole G may) closed least;
    }
