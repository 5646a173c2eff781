-- What a command makes of a plan that a text spells, by its steps, and why it makes nothing of it.
use Rattle.std.proofs.Common.{◌≡◌, List, None, inr, ℕ}
use Rattle.p3_base.specs.declared.refusal.Side.TheVariants.{Source, Written}
use Rattle.p3_task.specs.PlanTexts.{IsPlanText, plan_offence}
use Rattle.p3_task.specs.declared.task.Task.{Task}
use Rattle.p3_tree.specs.Reports.Plans.{lifted_lines}
use Rattle.p3_plans.specs.Laws.{HasPlan}
use Rattle.p3_plans.proofs.PlanLaws.{a_plan_where_no_offence}
use Rattle.p3_eval.specs.Steps as of
use Rattle.p3_eval.specs.Steps.{AreStepsOf, OfPlanText, OfSteps}
use Rattle.p3_eval.specs.declared.steps.Steps.{Steps}
use Rattle.p3_cli.specs.Evaluation.{AreOfPlan, IsEvaluation, IsFaultOf, IsRejectedPlan, IsReportOf, RejectsPlan}
use Rattle.p3_cli.specs.Explaining.{IsExplained, IsExplanation, IsUnexplained, IsUnfit, RejectsExplaining}
use Rattle.p3_lift.specs.Lifting.{IsLiftFail, IsLifted}
use Rattle.p3_lift.specs.declared.answers.LiftFail.{LiftFail}
use Rattle.p3_lift.specs.declared.answers.Lifted.{Lifted}
use Rattle.p3_cli.specs.Lifting.{AreOfLift, IsLifting, RejectsLift, TellsFail}
use Rattle.p3_cli.specs.Refusing.{AreAcceptedFor, IsRejectedBy}
use Rattle.p3_cli.specs.Texts.{AllTexts}
use Rattle.p3_cli.specs.declared.ending.Ending as code
use Rattle.p3_cli.proofs.SpelledLemmas.{says_more}

module _ (texts : AllTexts) (task : Task) (accepted : AreAcceptedFor Source texts task) (free : plan_offence texts.plan ≡ None) (steps : Steps) (are : OfPlanText texts.plan (λ plan. AreStepsOf task plan steps)) where
  pub the_plan : HasPlan texts.plan
  the_plan = (a_plan_where_no_offence texts.plan).1 free

  pub the_steps : AreStepsOf task the_plan.plan steps
  the_steps = are the_plan.plan the_plan.spelled

  pub its_texts : AreOfPlan texts.domain texts.problem texts.plan task the_plan.plan
  its_texts = record { accepted = accepted; spelled = the_plan.spelled; few = the_plan.few }

  pub is_evaluation : (report : List ℕ) → OfSteps task steps (IsReportOf task report) → IsEvaluation texts.domain texts.problem texts.plan report
  is_evaluation report told = let its = told the_plan.plan the_steps in record { task = task; plan = the_plan.plan; texts = its_texts; valid = its.valid; told = its.told }

  pub rejected_plan : (how : code.Ending) → IsRejectedBy (λ end. OfSteps task steps (IsFaultOf task end)) how → IsRejectedPlan texts how
  rejected_plan =
      says_more (λ end. OfSteps task steps (IsFaultOf task end)) (RejectsPlan texts) (λ how told.
      let its = told the_plan.plan the_steps in inr (record { task = task; plan = the_plan.plan; texts = its_texts; fault = its.fault; first = its.first; says = its.says }))

  pub is_explanation : (report : List ℕ) → OfSteps task steps (IsExplained task report) → IsExplanation texts.domain texts.problem texts.plan report
  is_explanation report told = record { task = task; plan = the_plan.plan; texts = its_texts; explained = told the_plan.plan the_steps }

  pub unexplained_plan : (how : code.Ending) → IsRejectedBy (λ end. OfSteps task steps (IsUnfit task end)) how → IsUnexplained texts how
  unexplained_plan =
      says_more (λ end. OfSteps task steps (IsUnfit task end)) (RejectsExplaining texts) (λ how told.
      inr (record { task = task; plan = the_plan.plan; texts = its_texts; unfit = told the_plan.plan the_steps }))

-- ---- a plan of a written task

module _ (texts : AllTexts) (T U : Task) (source : AreAcceptedFor Source texts T) (written : AreAcceptedFor Written texts U) (free : plan_offence texts.plan ≡ None) (steps : Steps)
    (are : OfPlanText texts.plan (λ plan. AreStepsOf U plan steps)) where
  pub written_plan : HasPlan texts.plan
  written_plan = (a_plan_where_no_offence texts.plan).1 free

  of_lift : AreOfLift texts T U written_plan.plan
  of_lift = record { source = source; written = written; spelled = written_plan.spelled; few = written_plan.few }

  pub its_lifted : (lifted : Lifted) → OfSteps U steps (λ plan. IsLifted T U plan lifted) → IsLifted T U written_plan.plan lifted
  its_lifted lifted is = is written_plan.plan (are written_plan.plan written_plan.spelled)

  pub is_lifting : (lifted : Lifted) → OfSteps U steps (λ plan. IsLifted T U plan lifted) → (text report : List ℕ) → IsPlanText text lifted.plan → report ≡ lifted_lines T lifted.plan lifted.cost → IsLifting texts text report
  is_lifting lifted is text report spelled told = record {
    task = T;
    written = U;
    plan = written_plan.plan;
    of = of_lift;
    lifted = lifted;
    is = its_lifted lifted is;
    spelled = spelled;
    told = told;
  }

  pub unlifted_plan : (why : LiftFail) → OfSteps U steps (λ plan. IsLiftFail T U plan why) → (how : code.Ending) → IsRejectedBy (TellsFail why) how → IsRejectedBy (RejectsLift texts) how
  unlifted_plan why shows =
      says_more (TellsFail why) (RejectsLift texts) (λ how told. inr (record {
        task = T;
        written = U;
        plan = written_plan.plan;
        of = of_lift;
        unlifted = record { why = why; shows = shows written_plan.plan (are written_plan.plan written_plan.spelled); says = told };
      }))
