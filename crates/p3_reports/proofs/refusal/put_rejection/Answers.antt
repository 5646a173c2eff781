use Rattle.std.proofs.Common.{rules, subst}
use Rattle.std.specs.Prelude.{OnOk}
use Rattle.std.proofs.lemmas.Int.{to_z-of_z}
use mir.Syntax.{w128}
use mir.Val.{SFits}
use Rattle.p3_base.specs.Outside.{IsPut}
use Rattle.p3_tree.specs.Reports.Refusals.{numbers_differ_line}
use Rattle.p3_reports.proofs.refusal.put_rejection.Goals as goal

pub returns-in-NumbersDiffer-clause-ok : goal.returns-in-NumbersDiffer-clause-ok
returns-in-NumbersDiffer-clause-ok g c =
    let cost : SFits w128 c.in-NumbersDiffer.cost = search rules in
    let loss : SFits w128 c.in-NumbersDiffer.loss = search rules in
    rw c.in-NumbersDiffer.is
    (subst (λ text. OnOk c.put_numbers_differ.result (IsPut text (g.S.Sink.seen c.args.out.now).written (g.S.Sink.seen c.put_numbers_differ.new.out).written))
    (λ i. numbers_differ_line (to_z-of_z w128 c.in-NumbersDiffer.cost cost i) (to_z-of_z w128 c.in-NumbersDiffer.loss loss i)) c.put_numbers_differ.ensures.ok)
