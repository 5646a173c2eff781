-- What is noted of atoms.
use Rattle.std.specs.Prelude.{◌≡◌, List}
use Rattle.std.specs.List.{All}
use Rattle.p3_formula.specs.declared.form.Change.{Change}
use Rattle.p3_regress.specs.Regressed.{atom_after}
use Rattle.p3_regress.specs.declared.often.Noted.{Noted}

-- the forms that are noted are those of the atoms before the changes
abbrev pub AreNoted : List Change → List Noted → Type 0
AreNoted changes noted = All (λ (one : Noted). one.form ≡ atom_after changes one.atom) noted
