use Rattle.p3_flat.specs.Splitting.{forms_in}
use Rattle.p3_flat.proofs.ExclusionLaws.{part_excluded}
use Rattle.p3_flat.proofs.excluding.some_is_excluded.Goals as goal

pub returns-then-is_excluded_whole : goal.returns-then-is_excluded_whole
returns-then-is_excluded_whole c = λ h. part_excluded c.args.pre.now (forms_in c.args.parts.now) c.args.others.now c.loop-other.other-index c.other-item.result c.loop-other-test.true c.other-item.is (c.is_excluded_whole.ensures c.if-is_excluded_whole.true)
