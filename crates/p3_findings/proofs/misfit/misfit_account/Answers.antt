use Rattle.std.proofs.Common.{◌≡◌, ◌∙◌, ◌++◌, [], ◌∷◌, List, Some, None, sym, ap, subst}
use Rattle.p3_task.specs.Validity.{AtStep}
use Rattle.p3_reports.specs.Faults.{fault_named, misfit_named, misfit_of}
use Rattle.p3_accounts.specs.declared.heading.Heading.{Heading}
use Rattle.p3_eval.specs.Judged.{fault_in}
use Rattle.p3_findings.specs.Accounts.{IsAccount, IsMisfit}
use Rattle.p3_findings.specs.Texts.{read}
use Rattle.p3_findings.proofs.MisfitLemmas.{account_by, is_of_step, named_back, of_misfit}
use Rattle.p3_findings.proofs.misfit.misfit_account.Goals as goal
use Rattle.p3_findings.proofs.misfit.misfit_account.Goals.{in-AtStep+in_ok-lines+in_ok-step_heading+in_ok-push, in_default}

pub returns : goal.returns
returns c = λ plan spelled. elim c.match-verdict.branch [
  | in-AtStep+in_ok-lines+in_ok-step_heading+in_ok-push w ↦
      let checked = c.args.checked.now in
      let texts = read c.args.texts.now in
      let placed = c.args.placed.now in
      let number = w.in-AtStep.number in
      let kind = misfit_of w.in-AtStep.kind in
      let found = fault_in c.args.fault.now in
      let told = sym c.named_fault-verdict.ensures ∙ w.in-AtStep.is in
      let is : found ≡ AtStep number kind = named_back found number w.in-AtStep.kind told in
      let misfit = subst (λ fault. IsMisfit checked texts.plan placed fault plan) is (c.requires plan spelled) in
      let heading = w.in_ok-step_heading.field-0 in
      let verdict : fault_named (AtStep number kind) ≡ c.match-verdict.verdict = ap fault_named (sym is) ∙ told ∙ sym w.verdict-is in
      let headings : heading ∷ [] ≡ c.match-verdict.headings = sym (w.headings-is ∙ w.in_ok-push.ensures.ok ∙ ap (λ (list : List Heading). list ++ heading ∷ []) c.new-headings.ensures) in
      let same : account_by (AtStep number kind) heading ≡ record { verdict = Some c.match-verdict.verdict; headings = c.match-verdict.headings; shares = None } = (λ i. record { verdict = Some (verdict i); headings = headings i; shares = None }) in
      subst (IsAccount checked.task checked.numbered texts plan) same (of_misfit checked texts plan placed number kind misfit heading (w.in_ok-step_heading.ensures plan misfit))
  | in_default w ↦
      let (number, kind, is) = is_of_step c.args.checked.now c.args.texts.now.plan.now c.args.placed.now plan (fault_in c.args.fault.now) (c.requires plan spelled) in
      absurd (w.in_default.not-AtStep number (misfit_named kind) (c.named_fault-verdict.ensures ∙ ap fault_named is))
]
