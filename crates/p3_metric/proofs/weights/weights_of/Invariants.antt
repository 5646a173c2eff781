use Rattle.std.proofs.Common.{◌≡◌, take, map}
use Rattle.std.specs.Int.RustNames.{unsigned_abs}
use Rattle.p3_metric.specs.Entries.{number_at}
use Rattle.p3_metric.proofs.weights.weights_of.Given as goal

abbrev pub invariant-loop-name : goal.invariant-loop-name
invariant-loop-name l = l.weights ≡ map (λ name. unsigned_abs (number_at l.counts name)) (take l.name-index l.names)
