use Rattle.std.proofs.Common.{take}
use Rattle.p3_flat.specs.Splitting.{AreChoices, conditions_in}
use Rattle.p3_flat.proofs.choices.all_choices.Given as goal

-- the choices for the conditions passed
abbrev pub invariant-loop-literal : goal.invariant-loop-literal
invariant-loop-literal l = AreChoices l.pre (conditions_in (take l.literal-index l.literals)) l.made
