-- What reasons are of, in a task and a plan by number, and the sketches that it makes of them.
use Rattle.std.specs.Prelude.{◌≡◌, ℕ, ◌-◌, Bool, true, false, if◌then◌else◌, List, [], ◌∷◌, ◌++◌, flat_map, length, map, option_and_then, option_map, option_to_list, position, slice_get, unwrap_or, Option, Some, None}
use Rattle.std.specs.List.{AllZip}
use Rattle.p3_base.specs.declared.refusal.Role.TheVariants.{Domain}
use Rattle.p3_base.specs.declared.showing.Reason.{Reason}
use Rattle.p3_base.specs.declared.showing.Showing.{Showing}
use Rattle.p3_base.specs.declared.showing.Subject.{Subject}
use Rattle.p3_base.specs.declared.showing.Subject.TheVariants.{Hard, Soft, Pre}
use Rattle.p3_task.specs.Constraints.{hard_list, instances}
use Rattle.p3_task.specs.Metrics.{step_prefs}
use Rattle.p3_task.specs.Names.{Name, same_name}
use Rattle.p3_task.specs.Offences.{WellFormed}
use Rattle.p3_task.specs.declared.task.Step.{Step}
use Rattle.p3_task.specs.declared.task.Task.{Task}
use Rattle.p3_numbers.specs.Tasks.{IsNumberedTask}
use Rattle.p3_numbers.specs.declared.task.NumberedTask.{NumberedTask}
use Rattle.p3_reasons.specs.Visits.{IsPlaced}
use Rattle.p3_reasons.specs.declared.visited.PlacedStep.{PlacedStep}
use Rattle.p3_scenes.specs.Bound.{IsBound, IsBoundPref, IsBoundSoft, hard_roles, instance_roles}
use Rattle.p3_scenes.specs.Scenes.{Scene, SoftScene, StateScene}
use Rattle.p3_scenes.specs.Seen.{seen, seen_soft}
use Rattle.p3_accounts.specs.Operators.{kind_of}
use Rattle.p3_unmet.specs.Bindings.{paired_with}
use Rattle.p3_unmet.specs.Sketches.{OfCondition, OfHardPart, Sketch, operator_sketch, subject_of}
use Rattle.p3_unmet.specs.Sources.{Texts, spot_of, texts}
use Rattle.p3_unmet.specs.Unmet.{is_unmet}
use Rattle.p3_unmet.specs.declared.draft.Concern.TheVariants as concern
use Rattle.p3_unmet.specs.declared.stage.Stage as declared

-- ---- without references

pub record Stage : Type 0 where
  pub task : Task
  pub numbered : NumberedTask
  pub texts : Texts
  pub steps : List PlacedStep
  pub hard : List Scene
  pub soft : List SoftScene

abbrev pub seen_stage : declared.Stage → Stage
seen_stage stage = record {
  task = stage.checked.now.task;
  numbered = stage.checked.now.numbered;
  texts = texts stage.sources.now;
  steps = stage.steps.now;
  hard = map seen stage.hard;
  soft = map seen_soft stage.soft;
}

-- the scenes are those of the task
pub record IsStage (stage : Stage) : Type 0 where
  pub well : WellFormed stage.task
  pub numbered : IsNumberedTask stage.task stage.numbered
  pub hard : AllZip (IsBound stage.numbered.numbers) (hard_list stage.task) stage.hard
  pub hard_in : map (λ (scene : Scene). scene.role) stage.hard ≡ hard_roles stage.task
  pub soft : AllZip (IsBoundSoft stage.task stage.numbered.numbers) (instances stage.task) stage.soft
  pub soft_in : map (λ (scene : SoftScene). scene.role) stage.soft ≡ instance_roles stage.task

-- ---- one reason

-- the number of a name
abbrev pub number_in : List Name → Option Name → Option ℕ
number_in names name = option_and_then (λ word. position (λ other. same_name other word) names) name

abbrev pub constraint_sketch : Stage → ℕ → Showing → Scene → Sketch
constraint_sketch stage number showing scene = operator_sketch (concern.Constraint number (kind_of scene.operator)) (option_map (spot_of stage.texts scene.role) scene.word) scene showing

abbrev pub constraint_at : Stage → ℕ → Showing → Option Sketch
constraint_at stage number showing = option_map (constraint_sketch stage number showing) (slice_get stage.hard number)

-- where its formulas have no word, its word `preference` stands for them
abbrev pub preference_sketch : Stage → SoftScene → Showing → Scene → Sketch
preference_sketch stage soft showing scene =
    operator_sketch (concern.Preference (number_in stage.numbered.numbers.preferences soft.name) (kind_of scene.operator)) (Some (spot_of stage.texts soft.role (unwrap_or scene.word soft.at))) scene showing

abbrev pub preference_in : Stage → ℕ → Showing → SoftScene → Option Sketch
preference_in stage part showing soft = option_map (preference_sketch stage soft showing) (slice_get soft.operators part)

abbrev pub preference_at : Stage → ℕ → ℕ → Showing → Option Sketch
preference_at stage instance part showing = option_and_then (preference_in stage part showing) (slice_get stage.soft instance)

abbrev pub step_sketch : Stage → ℕ → StateScene → Sketch
step_sketch stage step scene = record {
  spot = Some (spot_of stage.texts Domain scene.at);
  subject = subject_of (concern.StepPreference (number_in stage.numbered.numbers.preferences scene.name) step) (paired_with scene.scope scene.slots);
  slots = scene.slots;
  nowhere = false;
  inquiries = record { state = step - 1; operand = None; wanted = OfCondition scene.condition } ∷ [];
}

-- the preferences of the step before the place that is counted from 1
abbrev pub AreStepScenes : Stage → ℕ → List StateScene → Type 0
AreStepScenes stage step scenes = (placed : PlacedStep) → slice_get stage.steps (step - 1) ≡ Some placed
    → (own : Step) → IsPlaced stage.task stage.numbered own placed → AllZip (IsBoundPref stage.numbered.numbers) (step_prefs stage.task own) scenes

pub record IsStepSketch (stage : Stage) (step pref : ℕ) (found : Option Sketch) : Type 0 where
  pub scenes : List StateScene
  pub are : AreStepScenes stage step scenes
  pub is : found ≡ option_map (step_sketch stage step) (slice_get scenes pref)

-- what is found of the reason, where the task and the plan have what it is of
abbrev pub IsSketchBy : Stage → Subject → Showing → Option Sketch → Type 0
IsSketchBy stage (Hard number) showing found = found ≡ constraint_at stage number showing
IsSketchBy stage (Soft instance part) showing found = found ≡ preference_at stage instance part showing
IsSketchBy stage (Pre step pref) showing found = IsStepSketch stage step pref found

-- what is satisfied has none
abbrev pub Sketched : Bool → Stage → Reason → Option Sketch → Type 0
Sketched true stage reason found = IsSketchBy stage reason.subject reason.showing found
Sketched false stage reason found = found ≡ None

abbrev pub IsSketchOf : Stage → Reason → Option Sketch → Type 0
IsSketchOf stage reason found = Sketched (is_unmet reason) stage reason found

-- ---- all of them

-- behind the first ones those of the reasons
pub record AreSketched (stage : Stage) (first : List Sketch) (reasons : List Reason) (sketches : List Sketch) : Type 0 where
  pub found : List (Option Sketch)
  pub told : AllZip (IsSketchOf stage) reasons found
  pub whole : sketches ≡ first ++ flat_map option_to_list found

abbrev pub goal_sketch : Stage → Sketch
goal_sketch stage = record {
  spot = None;
  subject = subject_of concern.Goal [];
  slots = [];
  nowhere = false;
  inquiries = record { state = length stage.steps; operand = None; wanted = OfHardPart stage.numbered.goal } ∷ [];
}

-- where the goal does not hold
abbrev pub goal_sketches : Stage → Bool → List Sketch
goal_sketches stage holds = if holds then [] else goal_sketch stage ∷ []
