use Rattle.std.proofs.Common.{◌≡◌, take}
use Rattle.p3_metric.specs.Signs.{negative_spot_in}
use Rattle.p3_metric.proofs.negative.+negative.Given as goal

abbrev pub invariant-first_negative_in-loop-part : goal.invariant-first_negative_in-loop-part
invariant-first_negative_in-loop-part l = l.found ≡ negative_spot_in l.form l.direction (take l.part-index l.parts)
