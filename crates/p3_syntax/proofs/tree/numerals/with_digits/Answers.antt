use Rattle.p3_syntax.proofs.NumeralLemmas.{overflown}
use Rattle.p3_syntax.proofs.tree.numerals.with_digits.Goals as goal

pub returns-in_default : goal.returns-in_default
returns-in_default c =
    overflown c.loop-digit.value c.loop-digit.digit-index 0 _ c.args.digits.now c.loop-digit-test.true c.loop-digit.invariant.whole c.in_default.ensures
