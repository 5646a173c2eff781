use Rattle.p3_resolve.proofs.RangeLemmas.{each_list-more}
use Rattle.p3_resolve.proofs.ranges.each_list.Goals as goal

pub loop-types-preserved : goal.loop-types-preserved
loop-types-preserved c = record {
  same = c.in_ok-number_of.ensures.same;
  table = each_list-more c.loop-types.table c.number_of.new.keys c.args.found.now c.loop-types.types-index c.types-item.result
      c.loop-types-test.true c.types-item.is c.loop-types.invariant.table c.in_ok-number_of.ensures.lists;
}
