-- What it is that a form stands for a meaning, in the states that keep what no step changes.
use Rattle.std.specs.Prelude.{◌≡◌, ℕ, Bool, true, not, List, slice_get, Some, if◌then◌else◌}
use Rattle.std.specs.List.{list_all}
use Rattle.p3_task.specs.States.{State, has_fact}
use Rattle.p3_formula.specs.Forms.{truth, is_set, has_atoms}
use Rattle.p3_formula.specs.Simplified as made
use Rattle.p3_formula.specs.Tidy.{is_tidy_part}
use Rattle.p3_formula.specs.declared.form.Form.{Form}
use Rattle.p3_numbers.specs.declared.numbers.Numbers.{Numbers}
use Rattle.p3_expansion.specs.Atoms.{GroundAtom, fact_of, Keeps, Brings}
use Rattle.p3_expansion.specs.Meanings.{Meaning, both_or_one, joined}
use Rattle.p3_expansion.specs.Statics.{IsSettled}
use Rattle.p3_expansion.specs.declared.junction.Junction.{Junction}
use Rattle.p3_expansion.specs.declared.statics.Statics.{Statics}
use Rattle.p3_expansion.specs.declared.work.Work.{Work}

-- ---- forms

-- the bit of each atom says whether it is in the state
pub record Tells (N : Numbers) (atoms : List GroundAtom) (s : State) (b : List Bool) : Type 0 where
  pub bit : (k : ℕ) (atom : GroundAtom) → slice_get atoms k ≡ Some atom → is_set b k ≡ has_fact s (fact_of N atom)

-- the numbers of the atoms that pass are allowed
pub record Allows (atoms : List GroundAtom) (passes : GroundAtom → Bool) (allowed : ℕ → Bool) : Type 0 where
  pub number : (k : ℕ) (atom : GroundAtom) → slice_get atoms k ≡ Some atom → passes atom ≡ true → allowed k ≡ true

-- the form holds where it is meant to, and its atoms are among those that may be read
pub record Stands (N : Numbers) (S : Statics) (atoms : List GroundAtom) (meaning : Meaning) (form : Form) : Type 0 where
  pub truth : (s : State) (b : List Bool) → IsSettled N S s → Tells N atoms s b → truth b form ≡ meaning.test s
  pub reads : (passes : GroundAtom → Bool) (allowed : ℕ → Bool) → Allows atoms passes allowed → list_all passes meaning.reads ≡ true → has_atoms allowed form ≡ true

-- ---- atoms

-- atoms keep their numbers, and each new atom is one of those
pub record Grows (reads : List GroundAtom) (old new : Work) : Type 0 where
  pub atoms : Keeps old.atoms new.atoms
  pub brings : Brings reads old.atoms new.atoms

-- ---- forms that are made of others

-- it holds where the old one and the part do, or else one of them
pub record IsJoined (every : Bool) (old part new : Form) : Type 0 where
  pub truth : (b : List Bool) → truth b new ≡ both_or_one every (truth b old) (truth b part)
  pub atoms : (allowed : ℕ → Bool) → has_atoms allowed old ≡ true → has_atoms allowed part ≡ true → has_atoms allowed new ≡ true

-- ---- parts that are joined

-- the form of the parts
abbrev pub junction_form : Junction → Form
junction_form junction = if junction.is_cut then made.constant (not junction.every) else made.joined junction.every junction.parts

-- the parts may be parts of a tidy form
abbrev pub IsSound : Junction → Type 0
IsSound junction = list_all is_tidy_part junction.parts ≡ true

-- all or else some of the meanings, whose atoms may be among others
pub record Gathers (N : Numbers) (S : Statics) (reads : List GroundAtom) (old new : Work) (every : Bool) (meanings : List Meaning) (junction : Junction) : Type 0 where
  pub kind : junction.every ≡ every
  pub grows : Grows reads old new
  pub sound : IsSound junction
  pub stands : Stands N S new.atoms (joined every meanings) (junction_form junction)
