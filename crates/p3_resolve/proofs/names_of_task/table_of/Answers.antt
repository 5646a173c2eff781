use denote.Ref.{Bor}
use Rattle.p3_task.specs.Names.{Name}
use Rattle.p3_resolve.proofs.NameLemmas.{once_each-more}
use Rattle.p3_resolve.proofs.names_of_task.table_of.Goals as goal

pub loop-word-preserved : goal.loop-word-preserved
loop-word-preserved c = record {
  same = c.in_ok-push_new.ensures.same;
  names = once_each-more (λ (word : Bor Name). word.now) c.loop-word.names c.push_new.new.names c.args.words.now c.loop-word.word-index c.word-item.result
      c.loop-word-test.true c.word-item.is c.loop-word.invariant.names c.in_ok-push_new.ensures.names;
}
