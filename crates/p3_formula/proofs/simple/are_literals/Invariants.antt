use Rattle.std.proofs.Common.{◌≡◌, drop}
use Rattle.std.specs.List.{list_all}
use Rattle.p3_formula.specs.Tidy.{is_tidy_part}
use Rattle.p3_formula.proofs.simple.are_literals.Given as goal

-- the forms that are left decide
abbrev pub invariant-loop-part : goal.invariant-loop-part
invariant-loop-part l = list_all is_tidy_part (drop l.part-index l.parts) ≡ list_all is_tidy_part l.parts
