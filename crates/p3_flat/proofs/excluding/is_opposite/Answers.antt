use Rattle.p3_flat.proofs.ExclusionLaws.{excludes_negation, negation_excludes}
use Rattle.p3_flat.proofs.excluding.is_opposite.Goals as goal

pub returns-then-is_negation_of : goal.returns-then-is_negation_of
returns-then-is_negation_of c = λ h. negation_excludes c.args.form.now c.args.other.now (c.is_negation_of.ensures h)

pub returns-else-is_negation_of : goal.returns-else-is_negation_of
returns-else-is_negation_of c = λ h. excludes_negation c.args.form.now c.args.other.now (c.is_negation_of-else-is_negation_of.ensures h)
