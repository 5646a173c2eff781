use Rattle.std.proofs.Common.{◌||◌, not, subst}
use Rattle.std.specs.List.{list_all}
use Rattle.std.proofs.lemmas.List.{take_all}
use Rattle.p3_formula.specs.Forms.{is_set}
use Rattle.p3_reach.specs.Closed.{step_keeps}
use Rattle.p3_reach.specs.Models.{Says}
use Rattle.p3_reach.proofs.LeadLaws.{steps_next}
use Rattle.p3_reach.proofs.reach.lead_steps.Goals as goal

pub loop-step-preserved : goal.loop-step-preserved
loop-step-preserved c = steps_next c.args.given c.args.steps.now c.loop-step.step-index c.step-item.result c.args.theory.now c.loop-step.theory c.lead_step.new.theory
    c.loop-step-test.true c.step-item.is c.requires.given c.requires.below c.loop-step.invariant c.in_ok-lead_step.ensures

pub returns : goal.returns
returns c = subst (λ steps. Says (λ set. not (is_set set c.args.given) || list_all (step_keeps set) steps) c.args.theory.now c.loop-step.theory)
    (take_all c.loop-step.step-index c.args.steps.now c.loop-step-test.false) c.loop-step.invariant
