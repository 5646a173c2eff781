use Rattle.p3_lift.proofs.StepLaws.{copied_all, copied_next, copied_none}
use Rattle.p3_lift.proofs.steps.copied_numbers.Goals as goal

pub loop-number-init : goal.loop-number-init
loop-number-init c = copied_none c.args.source.now.task c.args.written.now.task c.args.numbers.now c.new-copied.result.items c.new-copied.ensures.items

pub loop-number-preserved : goal.loop-number-preserved
loop-number-preserved c =
    copied_next c.args.source.now.task c.args.written.now.task c.args.numbers.now c.loop-number.number-index c.loop-number.copied.items c.push_number.new.numbers.items c.in_ok-counted.counted c.loop-number-test.true
    c.loop-number.invariant c.in_ok-counted.ensures.counts c.in_ok-counted.ensures.within c.in_ok-push_number.ensures

pub returns : goal.returns
returns c = copied_all c.args.source.now.task c.args.written.now.task c.args.numbers.now c.loop-number.number-index c.loop-number.copied.items c.loop-number-test.false c.loop-number.invariant
