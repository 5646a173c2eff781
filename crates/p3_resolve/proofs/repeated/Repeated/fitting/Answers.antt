use Rattle.std.proofs.Common.{◌<◌, [], ◌∷◌, length, subst, sym}
use Rattle.std.specs.Prelude.{All, flat_map}
use Rattle.p3_numbers.specs.Names.{Adds}
use Rattle.p3_resolve.specs.Fitting.{name_in}
use Rattle.p3_resolve.proofs.RepeatedLemmas.{names-fitting, within-entries}
use Rattle.p3_resolve.proofs.repeated.Repeated.fitting.Goals as goal

pub named-requires : goal.named-requires
named-requires c =
    let entries = c.args.self.now.declarations.entries.items in
    subst (All (λ place. place < length entries)) (sym c.deref.ensures.value)
    (within-entries c.args.below.now.task.now c.args.below.now.types.now entries c.args.self.now.in_place c.in_ok-numbers.numbers.items c.in_ok-numbers.ensures)

pub returns : goal.returns
returns c =
    let entries = c.args.self.now.declarations.entries.items in
    let numbers = c.in_ok-numbers.numbers.items in
    names-fitting c.args.below.now.task.now c.args.below.now.types.now entries c.args.self.now.in_place numbers c.in_ok-numbers.ensures c.in_ok-names.names
    (subst (λ places. Adds [] (flat_map (λ place. name_in entries place ∷ []) places) c.in_ok-names.names) c.deref.ensures.value c.in_ok-names.ensures)
