-- Changes that are lent, by rising atom.
use Rattle.std.specs.Prelude.{List, map}
use Rattle.std.specs.List.Sorted.{IsNonDecreasingBy}
use denote.Ref.{Bor}
use Rattle.p3_formula.specs.declared.form.Change.{Change}

abbrev pub lent : List (Bor Change) → List Change
lent changes = map (λ change. change.now) changes

abbrev pub IsRising : List (Bor Change) → Type 0
IsRising changes = IsNonDecreasingBy (λ change. change.now.atom) changes
