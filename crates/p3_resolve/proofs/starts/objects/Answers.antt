use Rattle.std.proofs.Common.{◌∙◌, ◌+◌, [], ap, sym, take}
use Rattle.std.proofs.lemmas.Simd.{map-map}
use Rattle.p3_numbers.specs.Places.{numbered_term}
use Rattle.p3_numbers.specs.Slots.{value_of}
use Rattle.p3_task.specs.declared.term.Term.{Term}
use Rattle.p3_resolve.specs.NumbersOf.{numbers_of}
use Rattle.p3_resolve.proofs.TermLemmas.{argument-more}
use Rattle.p3_resolve.proofs.WalkLemmas.{map-more}
use Rattle.p3_resolve.proofs.starts.objects.Goals as goal

pub loop-place-preserved : goal.loop-place-preserved
loop-place-preserved c =
    let argument_of = numbered_term (numbers_of c.args.tables.now) c.args.walk.now.words in
    let made_of = λ (term : Term). value_of [] (argument_of term) in record {
      found = argument-more c.args.tables.now.task.now c.args.walk.now.scope c.args.declared c.args.found.now c.loop-place.found c.argument.new.found c.args.args.now c.loop-place.place c.index-args-place.result
          c.loop-place-test.true c.index-args-place.is c.loop-place.invariant.found c.in_ok-argument.ensures.found;
      made = map-more made_of c.loop-place.made c.push.new.self c.args.args.now c.loop-place.place c.index-args-place.result c.object_of.result
          c.loop-place-test.true c.index-args-place.is (c.loop-place.invariant.made ∙ map-map (value_of []) argument_of (take c.loop-place.place c.args.args.now))
          (c.object_of.ensures ∙ ap (value_of []) c.in_ok-argument.ensures.made) c.in_ok-push.ensures.ok
          ∙ sym (map-map (value_of []) argument_of (take (c.loop-place.place + 1) c.args.args.now));
    }
