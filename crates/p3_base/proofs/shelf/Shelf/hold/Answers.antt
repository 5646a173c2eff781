use Rattle.std.proofs.Common.{◌∙◌, ap}
use Rattle.std.specs.FinMap as map
use Rattle.p3_base.specs.Outside.{listed}
use Rattle.p3_base.proofs.ShelfLemmas.{from_entries-insert_entry}
use Rattle.p3_base.proofs.shelf.Shelf.hold.Goals as goal

pub returns-clause-ok : goal.returns-clause-ok
returns-clause-ok c =
    ap (λ entries. map.from_entries (listed entries)) c.in_ok-insert.ensures.entries
    ∙ from_entries-insert_entry c.self.inside.names.entries c.into_bytes.result c.args.bytes
    ∙ ap (λ store. map.insert store c.into_bytes.result.items c.args.bytes.items) c.self.view_is
    ∙ ap (λ name. map.insert c.args.self.now name c.args.bytes.items) c.into_bytes.ensures
