use Rattle.std.proofs.Common.{◌≡◌, ◌++◌, [], refl, subst}
use Rattle.std.specs.Prelude.{option_and_then, slice_get}
use Rattle.p3_resolve.specs.Tables.{header_of}
use Rattle.p3_resolve.specs.declared.tables.Declared.{Declared}
use Rattle.p3_resolve.proofs.tables.Tables.predicate.Goals as goal

pub returns-clause-declared : goal.returns-clause-declared
returns-clause-declared c =
    let self = c.args.self.now in
    let found = c.in_ok-found.found.declared in
    subst (λ headers. option_and_then (λ (one : Declared). slice_get (headers ++ self.task.now.domain.functions) one.number) found ≡ header_of found) self.predicates_told
    (c.in_ok-found.ensures.declared [] self.task.now.domain.functions refl)
