use Rattle.std.proofs.Common.{subst}
use Rattle.std.specs.Prelude.{OnErr, OnOk}
use Rattle.std.specs.Fmt.{decimal}
use Rattle.p3_base.specs.Outside.{IsPartlyPut, IsPut}
use Rattle.p3_tree.specs.Reports.Quantities.{shown_quantity}
use Rattle.p3_accounts.specs.Shares.{share_line}
use Rattle.p3_accounts.proofs.shares.put_name_share.Goals as goal

pub returns-clause-ok : goal.returns-clause-ok
returns-clause-ok g c =
    subst (λ text. OnOk c.put_share.result (IsPut text (g.S.Sink.seen c.args.out.now).written (g.S.Sink.seen c.put_share.new.out).written))
    (λ i.
    share_line (c.name_of-name.ensures i) (shown_quantity (c.measured-weight.ensures.places i) (c.measured-weight.ensures.units i)) (decimal c.args.share.now.count)
    (shown_quantity (c.measured-product.ensures.places i) (c.measured-product.ensures.units i)))
    c.put_share.ensures.ok

pub returns-clause-partly : goal.returns-clause-partly
returns-clause-partly g c =
    subst (λ text. OnErr c.put_share.result (IsPartlyPut text (g.S.Sink.seen c.args.out.now).written (g.S.Sink.seen c.put_share.new.out).written))
    (λ i.
    share_line (c.name_of-name.ensures i) (shown_quantity (c.measured-weight.ensures.places i) (c.measured-weight.ensures.units i)) (decimal c.args.share.now.count)
    (shown_quantity (c.measured-product.ensures.places i) (c.measured-product.ensures.units i)))
    c.put_share.ensures.partly
