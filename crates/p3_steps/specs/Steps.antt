-- The steps of a numbered task, as ground steps.
use Rattle.std.specs.Prelude.{◌≡◌, ℕ, ◌+◌, ◌==◌, Bool, true, List, [], ◌∷◌, ◌++◌, map, flat_map, IsTrue}
use Rattle.std.specs.List.{AllZip, filter, list_any}
use Rattle.p3_formula.specs.Tidy.{is_tidy}
use Rattle.p3_formula.specs.declared.task.GroundStep.{GroundStep}
use Rattle.p3_numbers.specs.Choices.{choice_count, choice}
use Rattle.p3_numbers.specs.Goals.{preferences}
use Rattle.p3_numbers.specs.Slots.{Slots}
use Rattle.p3_numbers.specs.declared.numbers.Numbers.{Numbers}
use Rattle.p3_numbers.specs.declared.task.NumberedAction.{NumberedAction}
use Rattle.p3_numbers.specs.declared.task.NumberedTask.{NumberedTask}
use Rattle.p3_steps.specs.Candidates.{candidates_among, candidates_of}
use Rattle.p3_steps.specs.Costs.{cost_of}
use Rattle.p3_expansion.specs.Atoms.{GroundAtom}
use Rattle.p3_expansion.specs.Changes.{ChangesStand, always, effect_atoms, guarded_literals}
use Rattle.p3_expansion.specs.Expansions.{Grows, Stands}
use Rattle.p3_expansion.specs.Hard.{hard_atoms, hard_meaning}
use Rattle.p3_expansion.specs.Preferences.{PreferencesStand, preference_atoms}
use Rattle.p3_expansion.specs.declared.statics.Statics.{Statics}
use Rattle.p3_expansion.specs.declared.work.Work.{Work}

-- ---- one step

-- an action at a choice of objects, with its number among all steps
pub record PlannedStep : Type 0 where
  pub action : NumberedAction
  pub choice : ℕ
  pub number : ℕ

abbrev pub slots_of : Numbers → PlannedStep → Slots
slots_of N planned = choice N planned.action.ranges planned.choice

-- the atoms of its precondition and effect
abbrev pub step_atoms : Numbers → PlannedStep → List GroundAtom
step_atoms N planned = hard_atoms N (slots_of N planned) planned.action.pre ++ (preference_atoms N (slots_of N planned) planned.action.pre ++ effect_atoms N (slots_of N planned) planned.action.effect)

-- the ground step stands for it: its number, its hard precondition and preferences, its changes, and its cost in units of so many places
pub record StepIsMade (X : NumberedTask) (S : Statics) (places : ℕ) (atoms : List GroundAtom) (planned : PlannedStep) (made : GroundStep) : Type 0 where
  pub number : made.number ≡ planned.number
  pub pre : Stands X.numbers S atoms (hard_meaning X.numbers (slots_of X.numbers planned) planned.action.pre) made.pre
  pub tidy : IsTrue (is_tidy made.pre)
  pub prefs : PreferencesStand X.numbers S atoms (preferences X.numbers (slots_of X.numbers planned) planned.action.pre) made.prefs
  pub effects : ChangesStand X.numbers S atoms (guarded_literals X.numbers always true (slots_of X.numbers planned) planned.action.effect) made.effects
  pub cost : made.cost ≡ cost_of places X.values (slots_of X.numbers planned) planned.action.effect

-- it does, among the atoms and nodes that came
pub record MakesStep (X : NumberedTask) (S : Statics) (places : ℕ) (planned : PlannedStep) (old new : Work) (made : GroundStep) : Type 0 where
  pub grows : Grows (step_atoms X.numbers planned) old new
  pub is : StepIsMade X S places new.atoms planned made

-- ---- all steps

-- entry by entry
abbrev pub StepsAreMade : NumberedTask → Statics → ℕ → List GroundAtom → List PlannedStep → List GroundStep → Type 0
StepsAreMade X S places atoms planned made = AllZip (StepIsMade X S places atoms) planned made

abbrev pub planned_step : NumberedAction → ℕ → ℕ → PlannedStep
planned_step action first choice = record { action = action; choice = choice; number = first + choice }

-- the steps of an action that may begin, behind so many steps
abbrev pub action_steps : Numbers → Statics → NumberedAction → ℕ → List PlannedStep
action_steps N S action first = map (planned_step action first) (candidates_of N S action.ranges action.pre)

-- the steps of an action that have these numbers and may begin, behind so many steps
abbrev pub action_steps_among : Numbers → Statics → NumberedAction → ℕ → List ℕ → List PlannedStep
action_steps_among N S action first those = map (planned_step action first) (candidates_among N S action.ranges action.pre first those)

-- how many steps the actions have
abbrev pub count_of_steps : Numbers → List NumberedAction → ℕ
count_of_steps N [] = 0
count_of_steps N (action ∷ actions) = choice_count N action.ranges + count_of_steps N actions

-- those of all actions in turn, behind so many steps
abbrev pub steps_from : Numbers → Statics → ℕ → List NumberedAction → List PlannedStep
steps_from N S first [] = []
steps_from N S first (action ∷ actions) = action_steps N S action first ++ steps_from N S (first + choice_count N action.ranges) actions

-- the steps that may begin, each with its number among all steps
abbrev pub planned_steps : NumberedTask → Statics → List PlannedStep
planned_steps X S = steps_from X.numbers S 0 X.actions

abbrev pub all_atoms : Numbers → List PlannedStep → List GroundAtom
all_atoms N planned = flat_map (step_atoms N) planned

-- the planned steps, among the atoms and nodes that came
pub record MakesSteps (X : NumberedTask) (S : Statics) (places : ℕ) (planned : List PlannedStep) (old new : Work) (made : List GroundStep) : Type 0 where
  pub grows : Grows (all_atoms X.numbers planned) old new
  pub are : StepsAreMade X S places new.atoms planned made

-- ---- some steps

-- it is one of the numbers
abbrev pub is_among : List ℕ → ℕ → Bool
is_among those number = list_any (λ one. one == number) those

-- those of the planned steps that have one of these numbers
abbrev pub with_numbers : List ℕ → List PlannedStep → List PlannedStep
with_numbers those planned = filter (λ (one : PlannedStep). is_among those one.number) planned

-- the steps that may begin and have one of these numbers
abbrev pub planned_among : NumberedTask → Statics → List ℕ → List PlannedStep
planned_among X S those = with_numbers those (planned_steps X S)
