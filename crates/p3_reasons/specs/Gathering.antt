-- What was gathered, as one list of atoms.
use Rattle.std.specs.Prelude.{List, [], ◌∷◌, ◌++◌}
use mathlib.Core.Former.{Count}
use Rattle.p3_expansion.specs.Atoms.{GroundAtom}
use Rattle.p3_reasons.specs.Outcomes.{Outcome}
use Rattle.p3_reasons.specs.declared.gathered.Finding.{Finding}
use Rattle.p3_reasons.specs.declared.gathered.Gathered.{Gathered, Row_of-Gathered, end_of-Gathered, more_of-Gathered}
use Rattle.p3_reasons.specs.declared.gathered.Gathered.TheVariants.{One, All'}

unfoldable mutual
  pub atoms_of : Gathered → List GroundAtom
  atoms_of (One atom) = atom ∷ []
  atoms_of (All' _ parts) = atoms_of_all parts

  pub atoms_of_all : {n : Count} → Row_of-Gathered n → List GroundAtom
  atoms_of_all end_of-Gathered = []
  atoms_of_all (more_of-Gathered part rest) = atoms_of part ++ atoms_of_all rest

abbrev pub outcome_of : Finding → Outcome
outcome_of finding = record { holds = finding.holds; atoms = atoms_of finding.atoms }
