use Rattle.std.proofs.Common.{◌≡◌, fold, take}
use Rattle.p3_limits.specs.Dear.{noted_effect}
use Rattle.p3_limits.proofs.dear.UnitBound.+dear.Given as goal

abbrev pub invariant-noted_effects-loop-effect : goal.invariant-noted_effects-loop-effect
invariant-noted_effects-loop-effect l = l.found ≡ fold (noted_effect l.self.side l.self.places l.self.role) l.fn.start (take l.effect-index l.effects)
