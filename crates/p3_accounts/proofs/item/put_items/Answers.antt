use Rattle.std.proofs.Common.{subst, sym}
use Rattle.std.specs.Prelude.{OnErr, OnOk}
use Rattle.p3_base.specs.Outside.{IsPartlyPut, IsPut}
use Rattle.p3_reports.proofs.JoinedLemmas.{joined-flat_map}
use Rattle.p3_accounts.specs.Items.{item_text}
use Rattle.p3_accounts.specs.Vocabularies.{vocabulary}
use Rattle.p3_accounts.proofs.item.put_items.Goals as goal

pub returns-clause-ok : goal.returns-clause-ok
returns-clause-ok g c =
    subst (λ text. OnOk c.put_all.result (IsPut text (g.S.Sink.seen c.args.out.now).written (g.S.Sink.seen c.put_all.new.out).written))
    (sym (joined-flat_map (item_text (vocabulary c.args.terms.now)) c.args.items.now)) c.put_all.ensures.ok

pub returns-clause-partly : goal.returns-clause-partly
returns-clause-partly g c =
    subst (λ text. OnErr c.put_all.result (IsPartlyPut text (g.S.Sink.seen c.args.out.now).written (g.S.Sink.seen c.put_all.new.out).written))
    (sym (joined-flat_map (item_text (vocabulary c.args.terms.now)) c.args.items.now)) c.put_all.ensures.partly
