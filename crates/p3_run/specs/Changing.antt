-- The changes of a step, made in place, and the operators that they touch.
use Rattle.std.specs.Prelude.{ℕ, Bool, not, if◌then◌else◌, List, []}
use Rattle.std.specs.List.{flat_map}
use Rattle.p3_formula.specs.Forms.{State, is_set, truth}
use Rattle.p3_formula.specs.declared.form.Change.{Change}
use Rattle.p3_run.specs.Readers.{readers_at}
use Rattle.p3_run.specs.declared.changing.ChangeFound.{ChangeFound}
use Rattle.p3_run.specs.declared.readers.OperatorReader.{OperatorReader}

-- what a change finds in the state before
abbrev pub found_in : State → Change → ChangeFound
found_in state change = record { made = truth state change.cond; set = is_set state change.atom }

abbrev pub differ : Bool → Bool → Bool
differ one other = if one then not other else other

-- the readers of an atom that is no longer set, or set now
abbrev pub touched_at : List (List OperatorReader) → State → Bool → ℕ → List OperatorReader
touched_at readers state set atom = if differ (is_set state atom) set then readers_at readers atom else []

-- those of all atoms that are named and have changed
abbrev pub touched : List (List OperatorReader) → State → State → List Change → List OperatorReader
touched readers before state effects = flat_map (λ (change : Change). touched_at readers state (is_set before change.atom) change.atom) effects
