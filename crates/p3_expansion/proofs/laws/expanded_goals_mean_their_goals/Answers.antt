use Rattle.p3_expansion.proofs.NamedGoalLemmas.{hard-parts-hold, preferences-hold}
use Rattle.p3_expansion.proofs.laws.expanded_goals_mean_their_goals.Goals as goal

pub returns : goal.returns
returns c = record { hard = hard-parts-hold; preferences = preferences-hold }
