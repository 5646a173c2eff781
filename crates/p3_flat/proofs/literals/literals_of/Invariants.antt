use Rattle.std.proofs.Common.{◌≡◌, take}
use Rattle.std.specs.List.{All}
use Rattle.p3_flat.specs.Splitting.{IsLiteral, conditions_in}
use Rattle.p3_flat.proofs.literals.literals_of.Given as goal

-- the literals of the conditions passed
abbrev pub invariant-loop-condition : goal.invariant-loop-condition
invariant-loop-condition l = (conditions_in l.literals.items ≡ take l.condition-index l.conditions) × All IsLiteral l.literals.items
