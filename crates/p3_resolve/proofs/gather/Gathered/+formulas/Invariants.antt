use Rattle.std.proofs.Common.{◌≡◌, take, []}
use Rattle.std.specs.Prelude.{flat_map}
use Rattle.p3_resolve.specs.Listed.{more, formula_lists}
use Rattle.p3_resolve.proofs.gather.Gathered.+formulas.Given as goal

abbrev pub invariant-formulas-loop-part : goal.invariant-formulas-loop-part
invariant-formulas-loop-part l = l.self ≡ more (flat_map formula_lists (take l.part-index l.parts)) [] l.fn.self
