use Rattle.std.proofs.Common.{subst}
use mir.Syntax.{w128}
use Rattle.std.specs.Prelude.{OnOk}
use Rattle.std.proofs.lemmas.Int.{to_z-of_z}
use Rattle.p3_base.specs.Outside.{IsPut}
use Rattle.p3_tree.specs.Reports.Refusals.{numbers_differ_line}
use Rattle.p3_reports.proofs.refusal.put_numbers_differ.Goals as goal

pub returns-clause-ok : goal.returns-clause-ok
returns-clause-ok g c =
    subst (λ text. OnOk c.put_pieces.result (IsPut text (g.S.Sink.seen c.args.out.now).written (g.S.Sink.seen c.put_pieces.new.out).written))
    (λ i. numbers_differ_line (to_z-of_z w128 c.args.cost c.ranges.cost i) (to_z-of_z w128 c.args.loss c.ranges.loss i)) c.put_pieces.ensures.ok
