use Rattle.std.proofs.Common.{◌≡◌, take}
use Rattle.p3_metric.specs.Cut.{cut_most, cut_total}
use Rattle.p3_metric.proofs.places.PlaceCount.+places.Given as goal

abbrev pub invariant-most_places-loop-part : goal.invariant-most_places-loop-part
invariant-most_places-loop-part l = l.most ≡ cut_most l.self.task.now (take l.part-index l.parts)

abbrev pub invariant-all_places-loop-part : goal.invariant-all_places-loop-part
invariant-all_places-loop-part l = l.total ≡ cut_total l.self.task.now (take l.part-index l.parts)
