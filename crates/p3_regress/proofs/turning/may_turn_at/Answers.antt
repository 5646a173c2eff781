use Rattle.std.proofs.Common.{arith, sym}
use Rattle.p3_regress.specs.Sorted.{lent}
use Rattle.p3_regress.proofs.PartLaws.{none_turned}
use Rattle.p3_regress.proofs.turning.may_turn_at.Goals as goal

pub returns : goal.returns
returns c =
    let end = c.loop-place-test.false in
    sym (none_turned (lent c.args.changes.now) c.args.up c.args.parts.now c.args.places.now c.requires.all (λ index part inside within. c.loop-place.invariant index part (omega (arith, inside, end)) within))
