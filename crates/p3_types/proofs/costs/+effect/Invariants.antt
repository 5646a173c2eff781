use Rattle.std.proofs.Common.{◌≡◌, take}
use Rattle.p3_types.specs.Costs.{most_of, effect_places}
use Rattle.p3_types.proofs.costs.+effect.Given as goal

abbrev pub invariant-effects_places-loop-effect : goal.invariant-effects_places-loop-effect
invariant-effects_places-loop-effect l = l.most ≡ most_of effect_places (take l.effect-index l.effects)
