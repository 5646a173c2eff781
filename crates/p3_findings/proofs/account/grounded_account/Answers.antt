use Rattle.std.proofs.Common.{sym, subst}
use Rattle.p3_plans.proofs.PlanLaws.{a_plan_where_no_offence}
use Rattle.p3_types.specs.declared.checked.Checked.{Checked}
use Rattle.p3_eval.proofs.RefusalLaws.{well_formed_from}
use Rattle.p3_eval.specs.Judged.{fault_in}
use Rattle.p3_explain.specs.Explaining.{IsExplainFail}
use Rattle.p3_eval.proofs.RunLaws.{no_step_fault}
use Rattle.p3_findings.specs.Accounts.{IsMisfit}
use Rattle.p3_findings.proofs.MisfitLemmas.{is_misfit}
use Rattle.p3_findings.proofs.PlacedLemmas.{all_placed}
use Rattle.p3_findings.proofs.account.grounded_account.Goals as goal

pub fitting_account-requires-clause-fitting : goal.fitting_account-requires-clause-fitting
fitting_account-requires-clause-fitting c = λ plan spelled.
    let checked = c.args.grounded.now.checked.now in
    let are = c.requires.has.are plan spelled in
    let fit = c.in-Ok.ensures.fit plan are in
    record {
      fit = no_step_fault checked.task plan fit;
      are_placed = all_placed checked.task (well_formed_from checked.task checked.well_formed) checked.numbered c.args.steps.now c.args.placed.now c.requires.placed plan are fit;
      fault = c.in-Ok.ensures.fault plan are;
      reasons = c.in-Ok.ensures.reasons plan are;
    }

pub fitting_account-requires-clause-done : goal.fitting_account-requires-clause-done
fitting_account-requires-clause-done c =
    let its = (a_plan_where_no_offence c.args.texts.now.plan.now).1 c.requires.has.free in
    let are = c.requires.has.are its.plan its.spelled in
    record { plan = its.plan; done = c.in-Ok.ensures.done its.plan are; fit = c.in-Ok.ensures.fit its.plan are }

pub misfit_account-requires : goal.misfit_account-requires
misfit_account-requires c = λ plan spelled.
    let own = c.args.grounded.now.checked.now in
    let text = c.args.texts.now.plan.now in
    let placed = c.args.placed.now in
    let fault = fault_in c.in-Err-Fault.fault in
    subst (λ (checked : Checked). IsMisfit checked text placed fault plan) (sym c.checked.ensures.checked)
    (is_misfit own text c.args.steps.now c.requires.has placed c.requires.placed plan spelled fault
    (subst (IsExplainFail own.task plan) c.in-Err-Fault.field-0-is (c.in-Err-Fault.ensures.fail plan (c.requires.has.are plan spelled))))
