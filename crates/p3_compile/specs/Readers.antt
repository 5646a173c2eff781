-- Which monitors read an atom, and where in their constraints.
use Rattle.std.specs.Prelude.{ℕ, ◌≤◌, ◌<◌, if◌then◌else◌, List, [], length, map, slice_index_or}
use Rattle.p3_formula.specs.AtomLists.{atoms_of}
use Rattle.p3_formula.specs.GroundModal.{GroundModal}
use Rattle.p3_base.specs.Operators.{each, is_at_end}
use Rattle.p3_regress.specs.Readers.{readers_from}
use Rattle.p3_regress.specs.declared.readers.PartReader.{PartReader}
use Rattle.p3_monitors.specs.FormIndex.{IndexesForms}
use Rattle.p3_monitors.specs.declared.forms.FormsByAtom.{FormsByAtom}
use Rattle.p3_monitors.specs.declared.monitoring.Monitor.{Monitor}

-- the atoms whose changes a monitor follows: none where only the last state counts
abbrev pub read_atoms : GroundModal → List ℕ
read_atoms modal = if is_at_end modal then [] else each atoms_of modal

abbrev pub followed : Monitor → List ℕ
followed monitor = read_atoms monitor.modal

-- the monitors as readers of these, by their places
abbrev pub readers_of : List Monitor → List PartReader
readers_of monitors = readers_from 0 (map followed monitors)

-- there is for each monitor what its constraint's forms have by atom
pub record AreByAtom (monitors : List Monitor) (by_atom : List FormsByAtom) : Type 0 where
  pub count : length monitors ≤ length by_atom
  pub each : (place : ℕ) (monitor : Monitor) (one : FormsByAtom) → place < length monitors → IndexesForms (slice_index_or monitors place monitor).modal (slice_index_or by_atom place one)
