use Rattle.std.proofs.Common.{◌∙◌, sym}
use Rattle.p3_base.proofs.CopiedLaws.{owner_of_copy, owner_of_question}
use Rattle.p3_base.proofs.copied.owning_step.Goals as goal

pub returns-then-is_some-clause-owner : goal.returns-then-is_some-clause-owner
returns-then-is_some-clause-owner c =
    owner_of_copy c.args.name.now c.copied_step-copied.result (sym c.is_some.ensures ∙ c.if-is_some.true)
    c.copied_step-copied.ensures.small c.copied_step-copied.ensures.some

pub returns-else-is_some-clause-owner : goal.returns-else-is_some-clause-owner
returns-else-is_some-clause-owner c =
    owner_of_question c.args.name.now c.copied_step-copied.result c.asking_step.result (sym c.is_some.ensures ∙ c.if-is_some.false)
    c.copied_step-copied.ensures.none c.asking_step.ensures.small c.asking_step.ensures.some c.asking_step.ensures.none
