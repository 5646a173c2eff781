use Rattle.std.proofs.Common.{◌≡◌, ◌∙◌, ◌++◌, ℕ, List, ap, subst, sym}
use Rattle.std.specs.Prelude.{codes}
use Rattle.p3_writer.specs.DomainText.{BegunDomain}
use Rattle.p3_writer.specs.Layout.{domain_layout}
use Rattle.p3_writer.specs.TaskOf.{task_of}
use Rattle.p3_writer.specs.Texts.{IsDomainTextOf}
use Rattle.p3_writer.proofs.Texts.Written.{domain_layout_is_text}
use Rattle.p3_writer.proofs.domain_text.DomainText.finish.Goals as goal

pub returns-clause-text : goal.returns-clause-text
returns-clause-text c = λ X has can.
    let laid : c.push.new.out.items ≡ domain_layout X = c.in_ok-push.ensures ∙ ap (λ (begun : BegunDomain). begun.text ++ codes ")\n") (c.self.view_is ∙ has.is) in
    subst (λ (bytes : List ℕ). IsDomainTextOf bytes (task_of X).domain) (sym laid) (domain_layout_is_text X can.sized can.predicates can.actions can.spelled has.small)
