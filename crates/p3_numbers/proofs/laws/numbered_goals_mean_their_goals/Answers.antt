use Rattle.p3_numbers.proofs.GoalLaws.{hard-means, preferences-mean}
use Rattle.p3_numbers.proofs.laws.numbered_goals_mean_their_goals.Goals as goal

pub returns : goal.returns
returns c = record { hard = λ T N ties. hard-means T N ties; preferences = λ T N ties. preferences-mean T N ties }
