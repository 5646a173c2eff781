-- A plan that is judged by the steps that it names.
use Rattle.std.proofs.Common.{◌≡◌, ◌∙◌, ℕ, List, Option, None, ap, sym, subst}
use Rattle.std.specs.List.{All}
use Rattle.std.specs.Prelude.{option_map}
use Rattle.p3_task.specs.Plans.{Plan}
use Rattle.p3_task.specs.Validity.{Valid}
use Rattle.p3_task.specs.declared.task.Task.{Task}
use Rattle.p3_task.proofs.ValidityLemmas.{valid_where_no_fault}
use Rattle.p3_formula.specs.declared.target.Weights.{Weights}
use Rattle.p3_formula.specs.declared.task.GroundTask.{GroundTask}
use Rattle.p3_ground.specs.StandsFor.{LeavesOutOnlyUnfit, LeftOutAt}
use Rattle.p3_run.specs.Runs.{Ran, begun}
use Rattle.p3_eval.specs.Judged.{IsJudged, fault_in}
use Rattle.p3_eval.specs.Runs.{BelongTogether}
use Rattle.p3_eval.specs.Steps.{AreStepsOf, OfItsSteps, OfSteps}
use Rattle.p3_eval.specs.declared.fault.PlanFault.{PlanFault}
use Rattle.p3_eval.specs.declared.steps.Steps.{Steps}
use Rattle.p3_explain.specs.Explaining.{IsExplainFail}
use Rattle.p3_explain.specs.declared.error.ExplainFail.{ExplainFail}
use Rattle.p3_explain.specs.declared.error.ExplainFail.TheVariants as fail
use Rattle.p3_cli.specs.Ending.{Ending}
use Rattle.p3_cli.specs.Explaining.{IsUnfit, TellsFail}

module _ (T : Task) (G : GroundTask) (w : Weights) (steps : Steps) (old new : Ran) (found : Option PlanFault) (together : BelongTogether T G w) (left : All (LeftOutAt T G) steps.numbers.items)
    (is : old ≡ begun G w) (judged : OfItsSteps old steps (λ task plan. IsJudged task plan old new found)) (plan : Plan) (are : AreStepsOf T plan steps) where
  pub plan_judged : IsJudged T plan old new found
  plan_judged =
      judged T (subst (λ (ran : Ran). BelongTogether T ran.task ran.weights) (sym is) together) (subst (λ (ran : Ran). All (LeftOutAt T ran.task) steps.numbers.items) (sym is) left) plan are

  pub valid_plan : found ≡ None → Valid T plan
  valid_plan none = (valid_where_no_fault T plan).1 (plan_judged.fault ∙ ap (option_map fault_in) none)

  -- the run is of the same task behind it
  pub still_together : found ≡ None → BelongTogether T new.task new.weights
  still_together none =
      let done = plan_judged.done none in
      subst (λ weights. BelongTogether T new.task weights) (sym (done.weights ∙ ap (λ (ran : Ran). ran.weights) is)) (subst (λ ground. BelongTogether T ground w) (sym (done.task ∙ ap (λ (ran : Ran). ran.task) is)) together)

-- what is left out is left out at each number
pub all_left : (T : Task) (G : GroundTask) → LeavesOutOnlyUnfit T G → (numbers : List ℕ) → All (LeftOutAt T G) numbers
all_left T G unfit numbers = λ k d within. unfit _

-- a plan that is not explained has a step that does not fit, where the ending says so
pub unfit : (T : Task) (steps : Steps) (why : ExplainFail) → OfSteps T steps (λ plan. IsExplainFail T plan why) → (how : Ending) → TellsFail why how → OfSteps T steps (IsUnfit T how)
unfit T steps (fail.Fault told) fails how says plan are = record { fault = fault_in told; first = fails plan are; says = says }
unfit T steps fail.NoMemory fails how says plan are = absurd says
