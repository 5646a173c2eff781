use Rattle.std.proofs.Common.{◌∙◌, ap}
use Rattle.std.specs.Prelude.{slice_get}
use Rattle.p3_resolve.proofs.TableLemmas.{header-at, numbered-from}
use Rattle.p3_resolve.proofs.tables.header_found.Goals as goal

pub returns-in-None-clause-header : goal.returns-in-None-clause-header
returns-in-None-clause-header c =
    c.in-None.ensures ∙ ap (slice_get c.args.headers.now.items.now) c.place-place.ensures ∙ header-at c.args.headers.now.items.now c.args.name.now

pub returns-in-Some-clause-header : goal.returns-in-Some-clause-header
returns-in-Some-clause-header c =
    c.in-Some.ensures ∙ ap (slice_get c.args.headers.now.items.now) c.place-place.ensures ∙ header-at c.args.headers.now.items.now c.args.name.now

pub returns-in-Some-clause-declared : goal.returns-in-Some-clause-declared
returns-in-Some-clause-declared c = numbered-from c.args.headers.now.items.now c.args.others c.place-place.result c.in-Some.header.now c.in-Some.ensures
