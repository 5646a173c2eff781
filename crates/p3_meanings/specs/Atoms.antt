-- The ground atoms of a written task.
use Rattle.std.specs.Prelude.{ℕ, List, codes, length, map, None}
use Rattle.p3_task.specs.declared.task.Task.{Task}
use Rattle.p3_formula.specs.declared.task.GroundTask.{GroundTask}
use Rattle.p3_numbers.specs.declared.numbers.Numbers.{Numbers}
use Rattle.p3_numbers.specs.declared.task.NumberedTask.{NumberedTask}
use Rattle.p3_expansion.specs.Atoms.{GroundAtom, fact_of}
use Rattle.p3_expansion.specs.declared.statics.Statics.{Statics}
use Rattle.p3_ground.specs.Expanded.{facts_of}
use Rattle.p3_ground.specs.StandsFor.{LeavesOutOnlyUnfit, StandsBy}
use Rattle.p3_ground.specs.Whole.{ArePartsOf}
use Rattle.p3_accounts.specs.Words.{fact_text}
use Rattle.p3_meanings.specs.Said.{Said}
use Rattle.p3_meanings.specs.declared.atoms.Expanded.{Expanded}

-- some ground task stands for the task where its atoms are these
pub record AreAtomsOf (T : Task) (N : Numbers) (atoms : List GroundAtom) : Type 0 where
  pub ground : GroundTask
  pub stands : StandsBy T (facts_of N atoms) ground
  pub left_out : LeavesOutOnlyUnfit T ground

-- what is expanded over the atoms are the parts of a ground task of all steps
abbrev pub AreExpandedOver : Task → NumberedTask → Statics → ℕ → List GroundAtom → Expanded → Type 0
AreExpandedOver T X S places atoms expanded = ArePartsOf T X S places atoms None (record { atoms = length atoms; steps = expanded.steps; goal = expanded.goal; hard = expanded.hard; soft = expanded.soft })

-- the fact that an atom stands for
abbrev pub atom_said : Numbers → GroundAtom → Said
atom_said N atom = record { letter = codes "f"; spot = None; text = fact_text (fact_of N atom) }

abbrev pub atoms_said : Numbers → List GroundAtom → List Said
atoms_said N atoms = map (atom_said N) atoms
