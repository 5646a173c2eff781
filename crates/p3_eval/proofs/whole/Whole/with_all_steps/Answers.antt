use Rattle.std.proofs.Common.{subst, sym}
use Rattle.p3_types.specs.declared.checked.Checked.{Checked}
use Rattle.p3_ground.specs.Whole as whole
use Rattle.p3_eval.specs.Accepted.{IsFailOf}
use Rattle.p3_eval.specs.declared.error.WholeFail.{WholeFail}
use Rattle.p3_eval.proofs.RefusalLaws.{accepted_from, no_metric, sizes_fail, well_formed_from}
use Rattle.p3_eval.proofs.whole.Whole.with_all_steps.Goals as goal

pub returns-in-Err-clause-refused : goal.returns-in-Err-clause-refused
returns-in-Err-clause-refused c =
    let checked = c.args.accepted.checked in
    let well = well_formed_from checked.task checked.well_formed in
    let linear = no_metric checked.side checked.task well (accepted_from checked.side checked.task c.args.accepted.accepted) in
    let fails = subst (λ (one : Checked). whole.IsFailOf one.side one.task c.in-Err.fail) c.checked.ensures.checked c.in-Err.ensures.refused in
    subst (λ (fail : WholeFail). IsFailOf checked.side checked.task fail) (sym c.from.ensures) (sizes_fail checked.side checked.task well linear c.in-Err.fail fails)
