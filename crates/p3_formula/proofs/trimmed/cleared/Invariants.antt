use Rattle.std.proofs.Common.{◌≡◌, [], drop}
use Rattle.p3_formula.specs.Literals.{with_all}
use Rattle.p3_formula.specs.Trimmed.{clearings}
use Rattle.p3_formula.proofs.trimmed.cleared.Given as goal

-- what is known so far, and the changes that are left, make up the whole
abbrev pub invariant-loop-change : goal.invariant-loop-change
invariant-loop-change l = with_all l.cleared (clearings (drop l.change-index l.effects)) ≡ with_all [] (clearings l.effects)
