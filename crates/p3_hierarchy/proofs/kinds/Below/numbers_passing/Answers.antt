use Rattle.std.proofs.Common.{◌∙◌, ◌++◌, ap, sym}
use Rattle.std.specs.Prelude.{flat_map}
use Rattle.std.proofs.lemmas.List.{take_all}
use Rattle.p3_hierarchy.specs.Typings.{number_where_fit}
use Rattle.p3_hierarchy.proofs.TypingLemmas.{fitting-passing, flat-more}
use Rattle.p3_hierarchy.proofs.kinds.Below.numbers_passing.Goals as goal

pub loop-entry-preserved : goal.loop-entry-preserved
loop-entry-preserved c =
    let test = number_where_fit c.args.self.now.task.now c.args.self.now.types.now in
    c.in_ok-push_fitting.ensures ∙ ap (λ front. front ++ test c.entry-item.result) c.loop-entry.invariant
    ∙ sym (flat-more test c.args.entries.now c.loop-entry.entry-index c.entry-item.result c.loop-entry-test.true c.entry-item.is)

pub returns : goal.returns
returns c =
    let self = c.args.self.now in
    fitting-passing self.task.now self.types.now c.args.entries.now c.loop-entry.numbers.items
    (c.loop-entry.invariant ∙ ap (flat_map (number_where_fit self.task.now self.types.now)) (take_all c.loop-entry.entry-index c.args.entries.now c.loop-entry-test.false))
