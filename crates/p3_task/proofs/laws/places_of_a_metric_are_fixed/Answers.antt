use Rattle.p3_task.proofs.PlacesLemmas.{metric_places-fixed}
use Rattle.p3_task.proofs.laws.places_of_a_metric_are_fixed.Goals as goal

pub returns : goal.returns
returns c = metric_places-fixed
