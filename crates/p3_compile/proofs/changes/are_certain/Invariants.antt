use Rattle.std.proofs.Common.{◌≡◌, true, drop}
use Rattle.std.specs.List.{list_all}
use Rattle.p3_formula.specs.Simplified.{is_value}
use Rattle.p3_formula.specs.declared.form.Change.{Change}
use Rattle.p3_compile.proofs.changes.are_certain.Given as goal

-- the changes that are left decide
abbrev pub invariant-loop-change : goal.invariant-loop-change
invariant-loop-change l = list_all (λ (change : Change). is_value true change.cond) (drop l.change-index l.changes) ≡ list_all (λ (change : Change). is_value true change.cond) l.changes
