use Rattle.std.proofs.Common.{◌∙◌, ◌+◌, Some, None, drop, sym, ap}
use Rattle.std.specs.Option.{option_or}
use Rattle.p3_types.proofs.InitialLemmas.{given_in, given-next, given-none, cost-is}
use Rattle.p3_types.proofs.initial.units_at_start.Goals as goal

pub returns-in-Some : goal.returns-in-Some
returns-in-Some c =
    let T = c.args.task.now in
    let entries = c.items-entry-items.result.now in
    let i = c.loop-entry.entry-index in
    cost-is T (Some c.in-Some.units)
    (ap (given_in T) (sym c.items-entry-items.ensures) ∙ sym c.loop-entry.invariant ∙ given-next T entries i c.entry-item.result c.loop-entry-test.true c.entry-item.is
    ∙ ap (λ value. option_or value (given_in T (drop (i + 1) entries))) (sym c.total_cost_of.ensures ∙ c.in-Some.is))

pub loop-entry-preserved : goal.loop-entry-preserved
loop-entry-preserved c =
    let T = c.args.task.now in
    let entries = c.items-entry-items.result.now in
    let i = c.loop-entry.entry-index in
    ap (λ value. option_or value (given_in T (drop (i + 1) entries))) (sym c.in_default.is ∙ c.total_cost_of.ensures)
    ∙ sym (given-next T entries i c.entry-item.result c.loop-entry-test.true c.entry-item.is) ∙ c.loop-entry.invariant

pub returns : goal.returns
returns c =
    let T = c.args.task.now in
    cost-is T None (ap (given_in T) (sym c.items-entry-items.ensures) ∙ sym c.loop-entry.invariant ∙ given-none T c.items-entry-items.result.now c.loop-entry.entry-index c.loop-entry-test.false)
