use Rattle.p3_numbers.specs.Places.{numbered_term}
use Rattle.p3_resolve.specs.NumbersOf.{numbers_of}
use Rattle.p3_resolve.proofs.TermLemmas.{argument-more}
use Rattle.p3_resolve.proofs.WalkLemmas.{map-more}
use Rattle.p3_resolve.proofs.terms.arguments.Goals as goal

pub loop-place-preserved : goal.loop-place-preserved
loop-place-preserved c = record {
  found = argument-more c.args.tables.now.task.now c.args.walk.now.scope c.args.declared c.args.found.now c.loop-place.found c.argument.new.found c.args.args.now c.loop-place.place c.index-args-place.result
      c.loop-place-test.true c.index-args-place.is c.loop-place.invariant.found c.in_ok-argument.ensures.found;
  made = map-more (numbered_term (numbers_of c.args.tables.now) c.args.walk.now.words) c.loop-place.made c.push.new.self c.args.args.now c.loop-place.place c.index-args-place.result c.in_ok-argument.field-0
      c.loop-place-test.true c.index-args-place.is c.loop-place.invariant.made c.in_ok-argument.ensures.made c.in_ok-push.ensures.ok;
}
