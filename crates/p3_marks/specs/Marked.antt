-- The marks of all operators of a task, in groups: those of the hard constraints, and those of each instance of a preference.
use Rattle.std.specs.Prelude.{◌≡◌, ℕ, ◌+◌, ◌≤◌, List, [], ◌∷◌, ◌++◌, length, map, flat_map, fold, slice_index_or, slice_set}
use Rattle.std.specs.List.{enumerate_from}
use Rattle.p3_base.specs.Limits.{instance_limit}
use Rattle.p3_base.specs.declared.showing.Reason.{Reason}
use Rattle.p3_base.specs.declared.showing.Subject.{Subject}
use Rattle.p3_base.specs.declared.showing.Subject.TheVariants.{Hard, Soft}
use Rattle.p3_formula.specs.Conditions.{HasAtomsBelow}
use Rattle.p3_formula.specs.Forms.{State}
use Rattle.p3_formula.specs.declared.form.Change.{Change}
use Rattle.p3_formula.specs.GroundModal.{GroundModal}
use Rattle.p3_formula.specs.declared.modal.GroundSoft.{GroundSoft}
use Rattle.p3_formula.specs.declared.task.GroundTask.{GroundTask}
use Rattle.p3_run.specs.Groups.{IsReader, modal_at, modals_at, modals_of}
use Rattle.p3_run.specs.Readers.{AreReaders, readers_at}
use Rattle.p3_run.specs.declared.readers.OperatorReader.{OperatorReader}
use Rattle.p3_marks.specs.Marks.{mark_of, next_mark, no_mark, shown_by}
use Rattle.p3_marks.specs.declared.mark.Mark.{Mark}
use Rattle.p3_marks.specs.declared.reasons.Owner.{Owner}
use Rattle.p3_marks.specs.declared.reasons.Owner.TheVariants as owner

-- ---- the mark at a place of a group

abbrev pub group_at : List (List Mark) → ℕ → List Mark
group_at marks group = slice_index_or marks group []

abbrev pub place_in : List Mark → ℕ → Mark
place_in group place = slice_index_or group place no_mark

abbrev pub mark_at : List (List Mark) → OperatorReader → Mark
mark_at marks reader = place_in (group_at marks reader.group) reader.place

-- ---- one state more, at the next place

abbrev pub renewed : ℕ → State → GroundModal → List Mark → ℕ → List Mark
renewed next state modal group place = slice_set group place (next_mark next state modal (place_in group place))

abbrev pub later : GroundModal → ℕ → State → List (List Mark) → OperatorReader → List Mark
later modal next state marks reader = renewed next state modal (group_at marks reader.group) reader.place

abbrev pub put_renewed : GroundModal → ℕ → State → List (List Mark) → OperatorReader → List (List Mark)
put_renewed modal next state marks reader = slice_set marks reader.group (later modal next state marks reader)

abbrev pub renewed_at : GroundTask → ℕ → State → List (List Mark) → OperatorReader → List (List Mark)
renewed_at G next state marks reader = put_renewed (modal_at G reader) next state marks reader

-- so are those of a list
abbrev pub renewed_all : GroundTask → ℕ → State → List (List Mark) → List OperatorReader → List (List Mark)
renewed_all G next state marks readers = fold (renewed_at G next state) marks readers

-- the operators that read an atom which a change names
abbrev pub named_by : List (List OperatorReader) → List Change → List OperatorReader
named_by readers effects = flat_map (λ (change : Change). readers_at readers change.atom) effects

-- ---- all marks, and the operators that read an atom

pub record Marked : Type 0 where
  pub readers : List (List OperatorReader)
  pub groups : List (List Mark)

-- in the first state
abbrev pub begun : State → GroundModal → Mark
begun state modal = next_mark 0 state modal no_mark

abbrev pub all_begun : GroundTask → List (List Mark)
all_begun G = map (begun G.initial) G.hard ∷ map (λ (soft : GroundSoft). map (begun G.initial) soft.parts) G.soft

-- those that read an atom which a change names are in one state more, at the next place
abbrev pub followed : GroundTask → ℕ → State → List Change → Marked → Marked
followed G next state effects marked = record { readers = marked.readers; groups = renewed_all G next state marked.groups (named_by marked.readers effects) }

-- ---- what is so of the marks

-- there is a mark for each operator
pub record HasShape (G : GroundTask) (groups : List (List Mark)) : Type 0 where
  pub count : length groups ≡ length (modals_of G)
  pub places : (group : ℕ) → length (group_at groups group) ≡ length (modals_at G group)

-- what is known while operators of a task come to be in one state more
pub record CanMark (G : GroundTask) (groups : List (List Mark)) : Type 0 where
  pub below : HasAtomsBelow G
  pub few : length G.soft ≤ instance_limit
  pub shape : HasShape G groups

-- the operators are filed by their atoms, too
pub record CanFollow (G : GroundTask) (marked : Marked) : Type 0 where
  pub can : CanMark G marked.groups
  pub readers : AreReaders G marked.readers

-- each mark is right of the states visited so far
pub record AreMarks (G : GroundTask) (W : List State) (marked : Marked) : Type 0 where
  pub follows : CanFollow G marked
  pub right : (reader : OperatorReader) → IsReader G reader → mark_at marked.groups reader ≡ mark_of W (modal_at G reader)

-- ---- what the marks show of so many states

abbrev pub subject_by : Owner → ℕ → Subject
subject_by owner.Hard number = Hard number
subject_by (owner.Soft instance) number = Soft instance number

abbrev pub shown_reason : ℕ → List Mark → (ℕ → Subject) → ℕ × GroundModal → Reason
shown_reason count group subject numbered = record { subject = subject numbered.0; showing = shown_by count numbered.1 (place_in group numbered.0) }

abbrev pub shown_reasons : ℕ → List Mark → (ℕ → Subject) → List GroundModal → List Reason
shown_reasons count group subject modals = map (shown_reason count group subject) (enumerate_from 0 modals)

abbrev pub shown_soft : ℕ → List (List Mark) → ℕ × GroundSoft → List Reason
shown_soft count marks numbered = shown_reasons count (group_at marks (numbered.0 + 1)) (subject_by (owner.Soft numbered.0)) numbered.1.parts

abbrev pub shown_all : GroundTask → ℕ → List (List Mark) → List Reason
shown_all G count marks = shown_reasons count (group_at marks 0) (subject_by owner.Hard) G.hard ++ flat_map (shown_soft count marks) (enumerate_from 0 G.soft)
