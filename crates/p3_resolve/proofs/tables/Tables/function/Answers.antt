use Rattle.std.proofs.Common.{◌≡◌, ◌∙◌, ◌++◌, [], sym, subst}
use Rattle.std.proofs.lemmas.List.{append-nil}
use Rattle.std.specs.Prelude.{option_and_then, slice_get}
use Rattle.p3_resolve.specs.Tables.{header_of}
use Rattle.p3_resolve.specs.declared.tables.Declared.{Declared}
use Rattle.p3_resolve.proofs.tables.Tables.function.Goals as goal

pub returns-clause-declared : goal.returns-clause-declared
returns-clause-declared c =
    let self = c.args.self.now in
    let found = c.in_ok-found.found.declared in
    subst (λ headers. option_and_then (λ (one : Declared). slice_get (self.task.now.domain.predicates ++ headers) one.number) found ≡ header_of found)
    (append-nil self.functions.items.now ∙ self.functions_told) (c.in_ok-found.ensures.declared self.task.now.domain.predicates [] (sym c.len-others.ensures))
