use Rattle.std.proofs.Common.{◌≡◌, [], ◌∷◌}
use Rattle.std.proofs.lemmas.Result.{IfOk-weaker}
use Rattle.p3_task.specs.PlanTexts.{IsPlanText}
use Rattle.p3_task.specs.declared.task.Step.{Step}
use Rattle.p3_plans.proofs.PlanLaws.{one_plan_at_most}
use Rattle.p3_inapplicable.proofs.WordingLemmas.{IfOk-always, refused-is-none}
use Rattle.p3_inapplicable.proofs.wording.step_words.Goals as goal

pub returns-in-Ok : goal.returns-in-Ok
returns-in-Ok c =
    IfOk-weaker c.first_words.result (λ words. (step : Step) → c.in-Ok.plan ≡ step ∷ [] → words ≡ step) (λ words. (step : Step) → IsPlanText c.args.text.now (step ∷ []) → words ≡ step)
    (λ words only step spelled. only step (one_plan_at_most c.args.text.now c.in-Ok.plan (step ∷ []) c.in-Ok.ensures.read spelled)) c.first_words.ensures

pub returns-in-Err-Refused : goal.returns-in-Err-Refused
returns-in-Err-Refused c =
    IfOk-always c.no_words.result (λ words. (step : Step) → IsPlanText c.args.text.now (step ∷ []) → words ≡ step)
    (λ words step spelled. absurd (refused-is-none c.args.text.now c.in-Err-Refused.field-0-0 step (rw c.in-Err-Refused.field-0-is at c.in-Err-Refused.ensures.refused) spelled))
