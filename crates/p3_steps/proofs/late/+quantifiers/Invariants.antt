use Rattle.std.proofs.Common.{take}
use Rattle.std.specs.List.{All}
use Rattle.p3_steps.specs.Late.{IsTestedEarly}
use Rattle.p3_steps.proofs.late.+quantifiers.Given as goal

abbrev pub invariant-some_have_quantifier-loop-part : goal.invariant-some_have_quantifier-loop-part
invariant-some_have_quantifier-loop-part l = All IsTestedEarly (take l.part-index l.parts)
