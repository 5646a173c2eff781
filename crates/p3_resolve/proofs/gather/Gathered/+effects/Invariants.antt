use Rattle.std.proofs.Common.{◌≡◌, take, []}
use Rattle.std.specs.Prelude.{flat_map}
use Rattle.p3_resolve.specs.Listed.{more, effect_lists}
use Rattle.p3_resolve.proofs.gather.Gathered.+effects.Given as goal

abbrev pub invariant-effects-loop-part : goal.invariant-effects-loop-part
invariant-effects-loop-part l = l.self ≡ more (flat_map effect_lists (take l.part-index l.parts)) [] l.fn.self
