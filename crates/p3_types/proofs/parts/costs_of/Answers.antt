use Rattle.std.proofs.Common.{◌∙◌, ◌<◌, List, length, sym, subst}
use Rattle.std.specs.List.{All}
use Rattle.p3_numbers.proofs.KnownLaws.{task-known}
use Rattle.p3_numbers.specs.declared.task.NumberedValue.{NumberedValue}
use Rattle.p3_types.specs.Costs.{greatest_of_all}
use Rattle.p3_types.proofs.CostLemmas.{functions_known, greatest_are}
use Rattle.p3_types.proofs.parts.costs_of.Goals as goal

pub greatest_values-requires-clause-known : goal.greatest_values-requires-clause-known
greatest_values-requires-clause-known c =
    let T = c.args.task.now in
    let N = c.args.numbered.now.numbers in
    let is = c.requires.numbered in
    let known = functions_known T N (task-known T N c.requires.well_formed is.covers).initial in
    subst (λ count. All (λ (value : NumberedValue). value.function < count) c.items.result.now) (sym c.len-functions.ensures)
    (subst (λ (values : List NumberedValue). All (λ (value : NumberedValue). value.function < length N.functions) values) (sym (c.items.ensures ∙ is.values)) known)

pub returns-clause-values : goal.returns-clause-values
returns-clause-values c =
    let T = c.args.task.now in
    let N = c.args.numbered.now.numbers in
    let is = c.requires.numbered in
    let values = c.items.ensures ∙ is.values in
    c.in_ok-greatest.ensures ∙ (λ i. greatest_of_all (c.cost_places-places.ensures i) (values i) (c.len-functions.ensures i))
    ∙ greatest_are T N is.names (task-known T N c.requires.well_formed is.covers).initial
