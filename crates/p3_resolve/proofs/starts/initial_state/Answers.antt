use Rattle.std.proofs.Common.{◌∙◌, ap, take}
use Rattle.p3_numbers.specs.Starts.{entry_fact, entry_value}
use Rattle.p3_resolve.specs.NumbersOf.{numbers_of}
use Rattle.p3_resolve.specs.Walk.{Walked, uses_of_each, uses_of_entry}
use Rattle.p3_resolve.proofs.FormLemmas.{scope-kept, tree-more, words-kept}
use Rattle.p3_resolve.proofs.StartLemmas.{found-more}
use Rattle.p3_resolve.proofs.starts.initial_state.Goals as goal

pub entry-requires-clause-words : goal.entry-requires-clause-words
entry-requires-clause-words c =
    ap (λ (walk : Walked). walk.words) c.loop-one.invariant.walk
    ∙ words-kept c.args.tables.now.task.now (uses_of_each uses_of_entry (take c.loop-one.one-index c.args.entries.now)) c.args.walk.now ∙ c.requires.words

pub entry-requires-clause-scope : goal.entry-requires-clause-scope
entry-requires-clause-scope c =
    ap (λ (walk : Walked). walk.scope) c.loop-one.invariant.walk
    ∙ scope-kept c.args.tables.now.task.now (uses_of_each uses_of_entry (take c.loop-one.one-index c.args.entries.now)) c.args.walk.now ∙ c.requires.scope

pub loop-one-preserved : goal.loop-one-preserved
loop-one-preserved c = record {
  walk = tree-more uses_of_entry c.args.tables.now.task.now c.args.walk.now c.loop-one.walk c.entry.new.walk c.args.entries.now c.loop-one.one-index c.one-item.result
      c.loop-one-test.true c.one-item.is c.loop-one.invariant.walk c.in_ok-entry.ensures.walk;
  facts = found-more (entry_fact (numbers_of c.args.tables.now)) c.loop-one.made.facts c.entry.new.state.facts c.args.entries.now c.loop-one.one-index c.one-item.result
      c.loop-one-test.true c.one-item.is c.loop-one.invariant.facts c.in_ok-entry.ensures.facts;
  values = found-more (entry_value (numbers_of c.args.tables.now)) c.loop-one.made.values c.entry.new.state.values c.args.entries.now c.loop-one.one-index c.one-item.result
      c.loop-one-test.true c.one-item.is c.loop-one.invariant.values c.in_ok-entry.ensures.values;
}
