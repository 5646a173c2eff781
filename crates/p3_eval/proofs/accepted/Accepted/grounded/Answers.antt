use Prim.{∣◌∣₁}
use Rattle.p3_eval.proofs.accepted.Accepted.grounded.Goals as goal

pub invariant_of-result : goal.invariant_of-result
invariant_of-result c = record { standing = ∣ c.requires ∣₁; weighing = c.args.self.now.weighing; accepted = c.args.self.now.accepted }
