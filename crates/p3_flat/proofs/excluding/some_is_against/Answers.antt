use Rattle.p3_flat.proofs.ExclusionLaws.{one_excludes}
use Rattle.p3_flat.proofs.excluding.some_is_against.Goals as goal

pub returns-then-is_against : goal.returns-then-is_against
returns-then-is_against c = λ h. one_excludes c.args.parts.now c.args.other.now c.loop-part.part-index c.part-item.result c.loop-part-test.true c.part-item.is (c.is_against.ensures c.if-is_against.true)
