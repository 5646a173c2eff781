-- What judging the two plans comes to, put together.
use Rattle.std.proofs.Common.{◌≡◌, ◌∙◌, ℕ, ◌<◌, List, [], length, refl, sym, subst, IfErr, IfOk, None}
use Rattle.std.specs.Prelude.{ℤ, Result, Ok, Err}
use Rattle.std.specs.List.{All}
use Rattle.std.proofs.lemmas.List.{append-nil}
use Rattle.p3_task.specs.Lifting.{Plain, lift, steps as all_steps}
use Rattle.p3_task.specs.Plans.{Plan}
use Rattle.p3_task.specs.StepNumbers.{HasStepNumbers}
use Rattle.p3_task.specs.declared.task.Task.{Task}
use Rattle.p3_types.specs.declared.checked.Checked.{Checked}
use Rattle.p3_ground.specs.PlansByNumber.{AreNumbers}
use Rattle.p3_ground.proofs.PlanNumbers.{has_numbers, valid_fits}
use Rattle.p3_eval.specs.Steps.{AreOfPlan, AreStepsOf, GoesOnAs, OfSteps}
use Rattle.p3_eval.specs.declared.steps.Steps.{Steps}
use Rattle.p3_eval.proofs.StepsLemmas.{all_numbered}
use Rattle.p3_lift.specs.Judging.{AreCopied, DiffersAt, IsComparison, IsPlanAt, IsWorth, IsWorthAt}
use Rattle.p3_lift.specs.Lifting.{IsLiftFail, IsLifted, numbered_steps}
use Rattle.p3_lift.specs.declared.answers.Differ.TheVariants.{Fault, Numbers}
use Rattle.p3_lift.specs.declared.answers.LiftFail.{LiftFail}
use Rattle.p3_lift.specs.declared.answers.LiftFail.TheVariants.{Invalid, Mismatch, NoMemory, NotPlain}
use Rattle.p3_lift.specs.declared.answers.Lifted.{Lifted}
use Rattle.p3_lift.specs.declared.judging.Worth.{Worth}
use Rattle.p3_lift.proofs.NumberLaws.{numbers_within, steps_numbered}

-- ---- the plan of the written task

-- all steps of a valid plan have numbers
pub plan_at : (U : Task) → HasStepNumbers U → Plain U → (steps : Steps) (plan : Plan) (worth : Worth) → AreStepsOf U plan steps → IsWorth U plan worth → (cost : ℤ) → cost ≡ worth.metric
    → IsPlanAt U steps.numbers.items cost plan
plan_at U K plain steps plan worth are own cost is =
    let known = has_numbers U K plan (valid_fits U plan own.valid) in
    record {
      of = record { plain = plain; valid = own.valid };
      are = all_numbered U K plan known.0 known.1 steps.numbers.items steps.rest are;
      cost = is ∙ own.metric;
    }

-- ---- the lifted plan beside the cost

module _ (T : Task) (copied : Steps) (cost : ℤ) (worth : Worth) (own : OfSteps T copied (λ plan. IsWorth T plan worth)) where
  pub worth_where_same : (result : Result ℤ LiftFail) → IsComparison cost worth result → IfOk result (λ metric. OfSteps T copied (IsWorthAt T cost metric))
  worth_where_same (Ok metric) (same, e) = λ plan are. let its = own plan are in record { valid = its.valid; metric = e ∙ its.metric; loss = sym same ∙ its.loss }
  worth_where_same (Err fail) differs = tt

  pub differs_where_apart : (result : Result ℤ LiftFail) → IsComparison cost worth result → IfErr result (λ fail. OfSteps T copied (DiffersAt T cost fail))
  differs_where_apart (Ok metric) same = tt
  differs_where_apart (Err fail) (apart, e) = λ plan are.
      let its = own plan are in
      subst (λ fail. DiffersAt T cost fail plan) (sym e) (record { valid = its.valid; cost = refl; loss = its.loss; apart = apart })

-- ---- behind the plan itself

pub copied_alike : (S T V U : Checked) (numbers copied : List ℕ) → S ≡ T → V ≡ U → AreCopied S.task V.task numbers copied → AreCopied T.task U.task numbers copied
copied_alike S T V U numbers copied one other are =
    subst (λ (checked : Checked). AreCopied checked.task U.task numbers copied) one (subst (λ (checked : Checked). AreCopied S.task checked.task numbers copied) other are)

module _ (T U : Task) (steps copied : Steps) (cost : ℤ) (costs : OfSteps U steps (IsPlanAt U steps.numbers.items cost)) (counted : AreCopied T U steps.numbers.items copied.numbers.items) (whole : copied.rest ≡ None) where
  numbered : (plan : Plan) → AreStepsOf U plan steps → AreNumbers T (lift T plan) copied.numbers.items
  numbered plan are = counted plan (costs plan are).are

  lifted_steps : (plan : Plan) → AreStepsOf U plan steps → AreStepsOf T (lift T plan) copied
  lifted_steps plan are = record { front = lift T plan; rest = []; parts = sym (append-nil (lift T plan)); are = numbered plan are; behind = subst (GoesOnAs T []) (sym whole) refl }

  module _ (some : AreOfPlan U steps) where
    pub some_lifted : AreOfPlan T copied
    some_lifted = record { plan = lift T some.plan; are = lifted_steps some.plan some.are }

    pub lifted_within : All (λ number. number < length (all_steps T)) copied.numbers.items
    lifted_within = numbers_within T (lift T some.plan) copied.numbers.items (numbered some.plan some.are)

  pub lifts : (metric : ℤ) → OfSteps T copied (IsWorthAt T cost metric) → (lifted : Lifted) → lifted ≡ record { plan = numbered_steps T copied.numbers.items; cost = cost; metric = metric } → OfSteps U steps (λ plan. IsLifted T U plan lifted)
  lifts metric worth lifted e plan are =
      let at = worth (lift T plan) (lifted_steps plan are) in
      let own = costs plan are in
      subst (IsLifted T U plan) (sym (e ∙ (λ i. record { plan = steps_numbered T (lift T plan) copied.numbers.items (numbered plan are) i; cost = cost; metric = metric })))
      (record { of = own.of; plan = refl; valid = at.valid; cost = own.cost; metric = at.metric; loss = at.loss })

  pub fails : (fail : LiftFail) → OfSteps T copied (DiffersAt T cost fail) → OfSteps U steps (λ plan. IsLiftFail T U plan fail)
  fails fail differs plan are = by fail (differs (lift T plan) (lifted_steps plan are))
    where
      by : (fail : LiftFail) → DiffersAt T cost fail (lift T plan) → IsLiftFail T U plan fail
      by (Mismatch (Fault told)) at = ((costs plan are).of, at)
      by (Mismatch (Numbers cost loss)) at = ((costs plan are).of, record { valid = at.valid; cost = at.cost ∙ (costs plan are).cost; loss = at.loss; apart = at.apart })
      by NoMemory at = tt
      by NotPlain at = absurd at
      by (Invalid told) at = absurd at
