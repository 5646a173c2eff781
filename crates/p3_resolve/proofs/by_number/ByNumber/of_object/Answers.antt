use Rattle.std.proofs.Common.{◌∙◌, ap, map}
use Rattle.p3_resolve.specs.ByNumber.{items_at}
use Rattle.p3_resolve.proofs.by_number.ByNumber.of_object.Goals as goal

pub returns : goal.returns
returns c name is =
    let self = c.args.self.now in
    ap (map (λ item. item.now)) c.items_at.ensures ∙ ap (λ table. items_at table c.args.number) c.deref.ensures.value ∙ ap (items_at self.table.items) is ∙ self.filed name
