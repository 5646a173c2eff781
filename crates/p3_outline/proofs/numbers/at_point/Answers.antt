use Rattle.p3_outline.proofs.NumberLemmas.{parted}
use Rattle.p3_outline.proofs.numbers.at_point.Goals as goal

pub returns-then-place-word-clause-parts : goal.returns-then-place-word-clause-parts
returns-then-place-word-clause-parts c = parted c.args.word.now c.point_place-place.result c.point_place-place.ensures.place c.if-place-word.true
