use Rattle.std.proofs.Common.{◌≡◌, ◌++◌, take}
use Rattle.std.specs.Prelude.{flat_map}
use Rattle.p3_formula.specs.Simplified.{spread}
use Rattle.p3_flat.specs.Splitting.{forms_in}
use Rattle.p3_flat.proofs.splitting.all_spread.Given as goal

-- what the forms passed consist of
abbrev pub invariant-loop-part : goal.invariant-loop-part
invariant-loop-part l = l.forms.items ≡ spread l.pre ++ flat_map spread (forms_in (take l.part-index l.parts))
