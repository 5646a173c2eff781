use Rattle.std.proofs.Common.{◌∙◌, ap, sym}
use Rattle.p3_metric.specs.Cut.{cut}
use Rattle.p3_metric.proofs.PlacesLaws.{no_places, places_of_body}
use Rattle.p3_metric.proofs.places.PlaceCount.metric_places.Goals as goal

pub returns-in-None : goal.returns-in-None
returns-in-None c = sym (ap cut (no_places c.args.self.now.task.now c.in-None.is))

pub returns-in-Some : goal.returns-in-Some
returns-in-Some c = c.places.ensures ∙ places_of_body c.args.self.now.task.now c.in-Some.metric c.in-Some.is
