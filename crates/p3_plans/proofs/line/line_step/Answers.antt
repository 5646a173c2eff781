use Rattle.std.proofs.Common.{◌∙◌, ℕ, List, sym, ap, subst}
use Rattle.p3_plans.specs.Steps.{IsSlice, Progress, left}
use Rattle.p3_plans.proofs.LineLemmas.{bad_line, blank_line, is_none, not_bad, step_line}
use Rattle.p3_plans.proofs.line.line_step.Goals as goal

pub returns-in-Some : goal.returns-in-Some
returns-in-Some c = bad_line c.args.line.now c.in-Some.refusal (sym c.in-Some.ensures)

pub returns-in-Step : goal.returns-in-Step
returns-in-Step c =
    step_line c.args.line.now (sym c.first_line_offence.ensures ∙ is_none c.first_line_offence.result c.in_default.not-Some)
    c.in-Step.step (left c.next.new.self) c.next.new.self.at
    (sym (ap left c.new-reader.ensures.starts) ∙ c.in-Step.ensures.steps)
    (subst (λ (source : List ℕ). IsSlice source c.in-Step.step.offset c.in-Step.step.text.now c.next.new.self.at)
    (ap (λ (progress : Progress). progress.source) c.new-reader.ensures.starts) c.in-Step.ensures.slice)

pub returns-in-End : goal.returns-in-End
returns-in-End c =
    blank_line c.args.line.now (sym c.first_line_offence.ensures ∙ is_none c.first_line_offence.result c.in_default.not-Some)
    (sym (ap left c.new-reader.ensures.starts) ∙ c.in-End.ensures.steps)

pub returns-in-Bad : goal.returns-in-Bad
returns-in-Bad c =
    absurd (not_bad c.args.line.now (sym c.first_line_offence.ensures ∙ is_none c.first_line_offence.result c.in_default.not-Some)
    c.in-Bad.refusal (sym (ap left c.new-reader.ensures.starts) ∙ c.in-Bad.ensures.steps))
