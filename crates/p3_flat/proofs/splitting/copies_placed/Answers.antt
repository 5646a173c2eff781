use Rattle.std.proofs.Common.{subst}
use Rattle.std.proofs.lemmas.Bool.{iff_false}
use Rattle.std.proofs.lemmas.Result.{IfOk-weaker}
use Rattle.p3_flat.specs.Splitting.{AreChoices}
use Rattle.p3_flat.proofs.CopyLaws.{only_copy, split_copies}
use Rattle.p3_flat.proofs.splitting.copies_placed.Goals as goal

pub returns-then-is_empty : goal.returns-then-is_empty
returns-then-is_empty c = IfOk-weaker c.only_action.result _ _ (λ copies is. only_copy c.args.action.now c.args.placing.now copies c.requires (c.is_empty.ensures.0 c.if-is_empty.true) is) c.only_action.ensures

pub returns : goal.returns
returns c =
    IfOk-weaker c.copies_by.result _ _
    (λ copies are. split_copies c.args.action.now c.args.placing.now c.in_ok-choices.choices copies c.requires (iff_false c.is_empty.ensures c.if-is_empty.false)
    (subst (λ forms. AreChoices c.args.action.now.pre forms c.in_ok-choices.choices) c.in_ok-literals.ensures.conditions c.in_ok-choices.ensures) are)
    c.copies_by.ensures
