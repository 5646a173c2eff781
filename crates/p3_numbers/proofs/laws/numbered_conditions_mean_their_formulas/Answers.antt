use Rattle.p3_numbers.proofs.ConditionLaws.{condition-means}
use Rattle.p3_numbers.proofs.laws.numbered_conditions_mean_their_formulas.Goals as goal

pub returns : goal.returns
returns c = λ T N ties. condition-means T N ties
