-- The operators of the hard constraints, and those of each instance of a preference, as groups that are satisfied where each of theirs is.
use Rattle.std.specs.Prelude.{◌≡◌, ℕ, ◌<◌, ◌≤◌, Bool, not, ◌&&◌, cond, List, [], ◌∷◌, length, map, slice_index_or, slice_set, count_by, sum_by, Option, None, fold, IsTrue, false}
use Rattle.std.specs.List.{All, list_all}
use Rattle.p3_base.specs.Limits.{instance_limit}
use Rattle.p3_formula.specs.Conditions.{HasAtomsBelow}
use Rattle.p3_formula.specs.Forms.{State}
use Rattle.p3_formula.specs.GroundPlans.{is_numbered}
use Rattle.p3_formula.specs.Modals.{is_modal_below}
use Rattle.p3_formula.specs.Weighted.{HasNameBelow, named_weight}
use Rattle.p3_formula.specs.declared.form.Form.TheVariants.{True}
use Rattle.p3_formula.specs.GroundModal.{GroundModal}
use Rattle.p3_base.specs.declared.operator.Operator.TheVariants.{AtEnd}
use Rattle.p3_formula.specs.declared.modal.GroundSoft.{GroundSoft}
use Rattle.p3_formula.specs.declared.task.GroundTask.{GroundTask}
use Rattle.p3_run.specs.Stages.{stage_of, next_stage, accepting}
use Rattle.p3_run.specs.Tallies.{Counted, IsTally}
use Rattle.p3_run.specs.declared.readers.OperatorReader.{OperatorReader}
use Rattle.p3_run.specs.declared.stages.Stage.{Stage}

-- ---- one group

-- the number of its name, where it has one, and the stages of its operators
pub record Watch : Type 0 where
  pub name : Option ℕ
  pub stages : List Stage

abbrev pub accepts : Stage → Bool
accepts stage = stage.accepts

abbrev pub is_met : List Stage → Bool
is_met stages = list_all accepts stages

abbrev pub rejects : Stage → Bool
rejects stage = not stage.accepts

abbrev pub unmet_in : List Stage → ℕ
unmet_in stages = count_by rejects stages

abbrev pub AreModalsBelow : ℕ → List GroundModal → Type 0
AreModalsBelow count modals = IsTrue (list_all (is_modal_below count) modals)

-- it is right of the states visited so far
abbrev pub watch_of : List State → Option ℕ → List GroundModal → Watch
watch_of W name modals = record { name = name; stages = map (stage_of W) modals }

abbrev pub stage_at : List Stage → ℕ → Stage
stage_at stages place = slice_index_or stages place (accepting false)

-- the operator at the place is in one state more
abbrev pub renewed : State → GroundModal → Watch → ℕ → Watch
renewed state modal watch place = record { name = watch.name; stages = slice_set watch.stages place (next_stage state modal (stage_at watch.stages place)) }

-- ---- the groups of a task: the hard constraints, and behind them the instances

abbrev pub modals_of : GroundTask → List (List GroundModal)
modals_of G = G.hard ∷ map (λ (soft : GroundSoft). soft.parts) G.soft

abbrev pub watches_of : List State → GroundTask → List Watch
watches_of W G = watch_of W None G.hard ∷ map (λ (soft : GroundSoft). watch_of W soft.name soft.parts) G.soft

abbrev pub modals_at : GroundTask → ℕ → List GroundModal
modals_at G group = slice_index_or (modals_of G) group []

abbrev pub watch_at : List Watch → ℕ → Watch
watch_at watches group = slice_index_or watches group (record { name = None; stages = [] })

-- ---- the operator at a place of a group

abbrev pub modal_at : GroundTask → OperatorReader → GroundModal
modal_at G reader = slice_index_or (modals_at G reader.group) reader.place (AtEnd True)

-- there is one
pub record IsReader (G : GroundTask) (reader : OperatorReader) : Type 0 where
  pub group : reader.group < length (modals_of G)
  pub place : reader.place < length (modals_at G reader.group)

-- it is in one state more
abbrev pub later : GroundModal → State → List Watch → OperatorReader → Watch
later modal state watches reader = renewed state modal (watch_at watches reader.group) reader.place

abbrev pub put_renewed : GroundModal → State → List Watch → OperatorReader → List Watch
put_renewed modal state watches reader = slice_set watches reader.group (later modal state watches reader)

abbrev pub renewed_at : GroundTask → State → List Watch → OperatorReader → List Watch
renewed_at G state watches reader = put_renewed (modal_at G reader) state watches reader

-- so are those of a list
abbrev pub renewed_all : GroundTask → State → List Watch → List OperatorReader → List Watch
renewed_all G state watches readers = fold (renewed_at G state) watches readers

-- there is a stage for each operator
pub record HasShape (G : GroundTask) (watches : List Watch) : Type 0 where
  pub groups : length watches ≡ length (modals_of G)
  pub places : (group : ℕ) → length (watch_at watches group).stages ≡ length (modals_at G group)

-- ---- what the instances that are not satisfied come to

-- as many have that name
abbrev pub violating : ℕ → List Watch → ℕ
violating name watches = count_by (λ (watch : Watch). is_numbered name watch.name && not (is_met watch.stages)) watches

abbrev pub violating_weight : List ℕ → List Watch → ℕ
violating_weight by_name watches = sum_by (λ (watch : Watch). cond (not (is_met watch.stages)) (named_weight by_name watch.name) 0) watches

-- the counters are right of the groups
abbrev pub IsCounted : List ℕ → List Watch → Counted → Type 0
IsCounted by_name watches tally = IsTally by_name (λ name. violating name watches) (violating_weight by_name watches) tally

-- each name of theirs is below the count
abbrev pub AreNamedBelow : ℕ → List Watch → Type 0
AreNamedBelow count watches = All (λ (watch : Watch). HasNameBelow count watch.name) watches

-- what is known while operators of a task come to be in one state more
pub record CanRenew (G : GroundTask) (by_name : List ℕ) (state : State) (watches : List Watch) (tally : Counted) : Type 0 where
  pub below : HasAtomsBelow G
  pub bits : length state ≡ G.atoms
  pub few : length G.soft ≤ instance_limit
  pub named : AreNamedBelow (length by_name) watches
  pub shape : HasShape G watches
  pub counted : IsCounted by_name watches tally
