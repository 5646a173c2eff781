use Rattle.std.proofs.Common.{◌≡◌, ◌∙◌, Some, refl, sym, ap, subst}
use Rattle.std.specs.Prelude.{option_map}
use Rattle.std.specs.List.{AllZip}
use Rattle.p3_task.specs.Explanations.{reasons}
use Rattle.p3_task.specs.Plans.{Plan}
use Rattle.p3_task.specs.Validity.{goal_holds}
use Rattle.p3_reasons.specs.Visits.{IsPlaced}
use Rattle.p3_reports.specs.Faults.{fault_named}
use Rattle.p3_types.specs.declared.checked.Checked.{Checked}
use Rattle.p3_accounts.specs.declared.account.Account.{Account}
use Rattle.p3_unmet.specs.Sources as sources
use Rattle.p3_unmet.specs.Sources.{Texts}
use Rattle.p3_unmet.specs.Unmet.{AreUnmet}
use Rattle.p3_findings.specs.Accounts.{IsOf, spares_goal}
use Rattle.p3_findings.specs.Texts.{halves, read}
use Rattle.p3_findings.proofs.GoalLemmas.{goal_by}
use Rattle.p3_findings.proofs.fitting.fitting_account.Goals as goal

pub returns : goal.returns
returns c = λ plan spelled.
    let own = c.args.grounded.now.checked.now in
    let T = own.task in
    let texts = read c.args.texts.now in
    let found = c.requires.fitting plan spelled in
    let list = c.in_ok-headings.headings in
    let holds : c.spares_goal-holds.result ≡ goal_holds T plan = c.spares_goal-holds.ensures ∙ ap spares_goal (sym found.fault) ∙ sym (goal_by T plan found.fit) in
    let told = subst (λ (checked : Checked). (its : Plan) → AllZip (IsPlaced checked.task checked.numbered) its c.args.placed.now → c.items-reasons.result.now ≡ reasons checked.task its → c.spares_goal-holds.result ≡ goal_holds checked.task its
    → AreUnmet checked.task checked.numbered.numbers (sources.texts c.in_ok-sources.sources) its list) c.checked.ensures.checked c.in_ok-headings.ensures in
    let unmet : AreUnmet T own.numbered.numbers (halves texts) plan list =
    subst (λ (its : Texts). AreUnmet T own.numbered.numbers its plan list) c.in_ok-sources.ensures (told plan found.are_placed (c.items-reasons.ensures ∙ found.reasons) holds) in
    let account : Account = record { verdict = c.first_named.result; headings = list; shares = Some c.in_ok-shares.shares } in
    record {
      verdict = c.first_named.ensures ∙ ap (option_map fault_named) (sym found.fault);
      is = subst (λ first. IsOf T own.numbered texts plan first account) (sym found.fit) (record {
        unmet = unmet;
        shares = c.in_ok-shares.shares;
        told = refl;
        are = c.in_ok-shares.ensures.are plan (c.requires.spelled plan spelled);
        add_up = c.in_ok-shares.ensures.adds_up;
      });
    }
