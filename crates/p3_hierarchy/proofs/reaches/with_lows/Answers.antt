use Rattle.std.proofs.Common.{◌∙◌}
use Rattle.p3_hierarchy.proofs.ReachLemmas.{lows-more}
use Rattle.p3_hierarchy.proofs.reaches.with_lows.Goals as goal

pub loop-low-preserved : goal.loop-low-preserved
loop-low-preserved c = record {
  end = c.with_place-reach.ensures.end ∙ c.loop-low.invariant.end;
  own = λ pairs within all none. lows-more pairs c.args.names.now c.args.place c.args.lows.now c.loop-low.low-index _ c.place.result
      c.loop-low.reach.least c.loop-low.reach.most c.with_place-reach.result.least c.with_place-reach.result.most c.loop-low-test.true c.place.ensures
      c.with_place-reach.ensures.least c.with_place-reach.ensures.most within all (c.loop-low.invariant.own pairs within all none);
}
