use Rattle.std.proofs.Common.{◌≡◌, true, subst}
use Rattle.std.specs.Prelude.{IfOk}
use Rattle.p3_formula.specs.Forms.{State, truth}
use Rattle.p3_precprefs.specs.Copies.{HasOneCopy}
use Rattle.p3_precprefs.proofs.copies.split.Goals as goal

pub returns-clause-one_copy : goal.returns-clause-one_copy
returns-clause-one_copy c =
    subst (λ pre. IfOk c.split_under.result (λ copies. (state : State) → truth state pre ≡ true → HasOneCopy c.args.weights.now c.args.step.now copies state)) c.in_ok-copied.ensures c.split_under.ensures.one_copy
