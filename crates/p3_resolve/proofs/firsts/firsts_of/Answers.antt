use Rattle.p3_resolve.proofs.FirstLemmas.{finds-more}
use Rattle.p3_resolve.proofs.firsts.firsts_of.Goals as goal

pub loop-place-preserved : goal.loop-place-preserved
loop-place-preserved g c = finds-more g.T.Worded.word_of c.args.items.now c.loop-place.place _ _ _ c.loop-place-test.true c.index-items-place.is c.loop-place.invariant c.in_ok-note_first.ensures
