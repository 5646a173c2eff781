-- The parts of a conjunction or a disjunction by the atoms that they read.
use Rattle.std.specs.Prelude.{◌≡◌, ℕ, ◌<◌, Bool, true, List, [], length, slice_index_or}
use Rattle.std.specs.List.{list_any}
use Rattle.p3_formula.specs.AtomLists.{atoms_of}
use Rattle.p3_formula.specs.declared.form.Form.{Form, items-the_row-Form}
use Rattle.p3_formula.specs.declared.form.Form.TheVariants.{True, False, Atom, Not', And', Or'}
use Rattle.p3_regress.specs.Readers.{is_at, mentions}
use Rattle.p3_regress.specs.declared.readers.PartsByAtom.{PartsByAtom}
use Rattle.p3_regress.specs.declared.readers.PartReader.{PartReader}

abbrev pub parts_of : Form → List Form
parts_of True = []
parts_of False = []
parts_of (Atom atom) = []
parts_of (Not' shape part) = []
parts_of (And' shape parts) = items-the_row-Form _ parts
parts_of (Or' shape parts) = items-the_row-Form _ parts

-- each of the parts stands at its place for each atom that it reads
abbrev pub AreListed : List Form → List PartReader → Type 0
AreListed parts readers =
    (atom place : ℕ) (part : Form) → place < length parts → mentions atom (atoms_of (slice_index_or parts place part)) ≡ true → list_any (is_at atom place) readers ≡ true

-- so it is, where they are listed
abbrev pub ListsParts : List Form → PartsByAtom → Type 0
ListsParts parts by_atom = by_atom.listed ≡ true → AreListed parts by_atom.readers.items

abbrev pub IndexesParts : Form → PartsByAtom → Type 0
IndexesParts form by_atom = ListsParts (parts_of form) by_atom

-- each part that passes the test stands at one of the places
abbrev pub HasTurning : (Form → Bool) → List Form → List ℕ → Type 0
HasTurning test parts places = (place : ℕ) (part : Form) → place < length parts → test (slice_index_or parts place part) ≡ true → mentions place places ≡ true
