use Rattle.std.proofs.Common.{◌≡◌, take}
use Rattle.p3_formula.proofs.copy.effects_copied.Given as goal

-- the changes passed stand copied
abbrev pub invariant-loop-change : goal.invariant-loop-change
invariant-loop-change l = l.copies.items ≡ take l.change-index l.effects
