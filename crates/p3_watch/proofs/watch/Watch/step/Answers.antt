use Rattle.std.proofs.Common.{◌∷◌, [], ◌<◌, ◌≤◌, length, arith, subst, sym}
use Rattle.p3_base.specs.declared.refusal.Refusal.{Refusal}
use Rattle.p3_task.specs.PlanTexts.{IsPlanText}
use Rattle.p3_task.specs.declared.task.Step.{Step}
use Rattle.p3_types.specs.Finds.{IsFound}
use Rattle.p3_types.specs.declared.checked.Checked.{Checked}
use Rattle.p3_run.specs.Runs.{most_steps}
use Rattle.p3_eval.specs.Runs.{BelongTogether}
use Rattle.p3_watch.specs.Watching.{IsTried}
use Rattle.p3_watch.specs.declared.watch.Line.TheVariants as line
use Rattle.p3_watch.proofs.AnswerLemmas.{done_is, fault_is, full_is}
use Rattle.p3_watch.proofs.watch.Watch.step.Goals as goal

pub returns-then-steps-ge-MOST_STEPS-clause-answer : goal.returns-then-steps-ge-MOST_STEPS-clause-answer
returns-then-steps-ge-MOST_STEPS-clause-answer c = λ own spelled.
    let T = c.args.self.now.checked.now.task in
    let ran = c.args.self.now.run in
    let full : most_steps ≤ length ran.plan = omega (arith, c.steps.ensures.count, c.if-steps-ge-MOST_STEPS.true) in
    subst (λ (one : Refusal). IsTried T c.args.offset own ran ran (line.Refused one)) (sym c.too_many.ensures) (full_is T c.args.offset own ran full)

pub returns-in-None-clause-answer : goal.returns-in-None-clause-answer
returns-in-None-clause-answer c =
    let T = c.args.self.now.checked.now.task in
    let ran = c.args.self.now.run in
    let room : length ran.plan < most_steps = omega (arith, c.steps.ensures.count, c.if-steps-ge-MOST_STEPS.false) in
    done_is T c.args.offset c.args.text.now ran c.follow.new.self c.find_text-found.result (subst (λ (checked : Checked). BelongTogether checked.task ran.task ran.weights) c.checked.ensures.checked c.checked.ensures.together) room
    (subst (λ (checked : Checked). (own : Step) → IsPlanText c.args.text.now (own ∷ []) → IsFound checked.task own c.find_text-found.result) c.checked.ensures.checked c.find_text-found.ensures)
    c.in-None.ensures.told c.in-None.ensures.misfit c.in-None.ensures.ran

pub returns-in-Some-clause-answer : goal.returns-in-Some-clause-answer
returns-in-Some-clause-answer c =
    let T = c.args.self.now.checked.now.task in
    let ran = c.args.self.now.run in
    let room : length ran.plan < most_steps = omega (arith, c.steps.ensures.count, c.if-steps-ge-MOST_STEPS.false) in
    fault_is T c.args.offset c.args.text.now ran c.follow.new.self c.find_text-found.result (subst (λ (checked : Checked). BelongTogether checked.task ran.task ran.weights) c.checked.ensures.checked c.checked.ensures.together) room
    (subst (λ (checked : Checked). (own : Step) → IsPlanText c.args.text.now (own ∷ []) → IsFound checked.task own c.find_text-found.result) c.checked.ensures.checked c.find_text-found.ensures)
    c.in-Some.fault c.in-Some.ensures.misfit c.in-Some.ensures.ran
