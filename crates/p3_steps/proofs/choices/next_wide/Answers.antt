use Rattle.std.proofs.Common.{◌∙◌, length, arith, sym, ap}
use Rattle.p3_steps.proofs.CandidateLemmas.{none-between, one-between}
use Rattle.p3_steps.proofs.choices.next_wide.Goals as goal

pub loop-last-init : goal.loop-last-init
loop-last-init c = record { on = omega arith; within = c.requires; ones = none-between c.args.numbers.now c.args.ranges.now c.args.place }

pub loop-last-preserved : goal.loop-last-preserved
loop-last-preserved c =
    let low = c.loop-last.invariant.on in
    record {
      on = omega (arith, low);
      within = c.loop-last-test.true;
      ones = one-between c.args.numbers.now c.args.ranges.now c.args.place c.loop-last.last low c.loop-last.invariant.within c.loop-last.invariant.ones (ap length (sym c.objects_of.ensures) ∙ c.if-objects_of-eq1.true);
    }
