use Rattle.std.proofs.Common.{subst}
use Rattle.p3_cli.specs.Texts.{all_texts}
use Rattle.p3_findings.specs.Accounts.{IsAccountOf}
use Rattle.p3_findings.specs.Texts.{Read}
use Rattle.p3_why.proofs.PlanLemmas.{told, within}
use Rattle.p3_why.proofs.plan.told_plan.Goals as goal

pub placed_steps-requires-clause-within : goal.placed_steps-requires-clause-within
placed_steps-requires-clause-within g c =
    within c.args.names.now (all_texts c.args.texts.now) c.args.accepted.now.checked c.args.steps.now c.requires c.checked-checked.result.now c.checked-checked.ensures.checked c.as_slice.result.now c.as_slice.ensures.value

pub returns-clause-told : goal.returns-clause-told
returns-clause-told g c =
    let texts = all_texts c.args.texts.now in
    let own = c.args.accepted.now.checked in
    let account = c.in_ok-account.account in
    let words = c.terms_of-terms.ensures in
    let is = subst (λ (read : Read). IsAccountOf own.task own.numbered read account) c.plan_texts.ensures c.in_ok-account.ensures in
    record {
      lines = _;
      is_valid = _;
      says = told c.args.names.now texts own c.args.steps.now c.requires c.in_ok-placed.placed c.terms_of-terms.result account is c.checked-checked.result.now c.checked-checked.ensures.checked c.as_slice.result.now c.as_slice.ensures.value
          (record { domain = words.domain; problem = words.problem; plan = words.plan; actions = words.actions; numbers = words.numbers; numbered = words.numbered; steps = words.steps }) c.in_ok-placed.ensures;
      tells = c.told_account-status.ensures;
    }
