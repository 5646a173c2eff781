use Rattle.std.proofs.Common.{take}
use Rattle.p3_flat.specs.Splitting.{AreHalves}
use Rattle.p3_flat.proofs.choices.halves.Given as goal

-- the choices passed with one condition more
abbrev pub invariant-loop-choice : goal.invariant-loop-choice
invariant-loop-choice l = AreHalves l.pre l.literal.holds (take l.choice-index l.choices) l.new.items
