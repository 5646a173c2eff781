use Rattle.p3_resolve.proofs.GivenLemmas.{values-more, tells-more}
use Rattle.p3_resolve.proofs.given.values_repeated.Goals as goal

pub loop-entry-preserved : goal.loop-entry-preserved
loop-entry-preserved c = record {
  least = values-more c.args.entries.now c.loop-entry.entry-index c.entry-item.result c.loop-entry-test.true c.entry-item.is c.args.found c.loop-entry.least c.in_ok-least.least c.loop-entry.given
      c.loop-entry.invariant.given c.loop-entry.invariant.least c.in_ok-least.ensures.least;
  given = tells-more c.args.entries.now c.loop-entry.entry-index c.entry-item.result c.loop-entry-test.true c.entry-item.is c.loop-entry.given c.entry_noted.new.given
      c.loop-entry.invariant.given c.in_ok-least.ensures.given;
}
