use Rattle.std.proofs.Common.{[], None, refl, subst}
use Rattle.p3_expansion.specs.Forms.{Makes}
use Rattle.p3_expansion.specs.Hard.{hard_meaning}
use Rattle.p3_expansion.specs.TaskConstraints.{MakesHard, MakesSoft}
use Rattle.p3_steps.specs.Steps.{MakesSteps, planned_steps}
use Rattle.p3_ground.proofs.WholeLaws.{parts-are}
use Rattle.p3_meanings.proofs.atoms.expand.Goals as goal

pub returns : goal.returns
returns c =
    let S = c.args.statics.now in
    let places = c.args.costs.now.places in
    let same = c.numbered-task.ensures.task in
    parts-are c.args.checked.now.task c.args.checked.now.numbered S places c.requires.well c.numbered-task.ensures.numbered c.requires.statics None
    c.args.work.now c.steps.new.work c.hard_form.new.work c.hard_constraints.new.work c.soft_constraints.new.work _ c.requires.none c.len.ensures.distinct refl
    (subst (λ X. MakesSteps X S places (planned_steps X S) c.args.work.now c.steps.new.work c.in_ok-steps.steps) same c.in_ok-steps.ensures)
    (subst (λ X. Makes X.numbers S c.steps.new.work c.hard_form.new.work (hard_meaning X.numbers [] X.goal) c.in_ok-goal.goal) same c.in_ok-goal.ensures)
    (subst (λ X. MakesHard X S c.hard_form.new.work c.hard_constraints.new.work c.in_ok-hard.hard) same c.in_ok-hard.ensures)
    (subst (λ X. MakesSoft X S c.hard_constraints.new.work c.soft_constraints.new.work c.in_ok-soft.soft) same c.in_ok-soft.ensures)
