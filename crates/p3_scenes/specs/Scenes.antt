-- The operators and preferences of constraints and goals at objects, with the words of the variables in scope and their places in the text.
use Rattle.std.specs.Prelude.{ℕ, Bool, true, false, List, [], ◌∷◌, ◌++◌, map, flat_map, if◌then◌else◌, Option}
use mathlib.Core.Former.{Count, one_more}
use Rattle.p3_base.specs.declared.operator.Operator.TheVariants.{AtEnd}
use Rattle.p3_base.specs.declared.refusal.Role.{Role}
use Rattle.p3_base.specs.declared.refusal.Role.TheVariants.{Domain, Problem}
use Rattle.p3_task.specs.Constraints.{one_constraint}
use Rattle.p3_task.specs.Folds.{fold_constraint, fold_goal}
use Rattle.p3_task.specs.Goals.{named}
use Rattle.p3_task.specs.Modal.{Modal}
use Rattle.p3_task.specs.Names.{Name}
use Rattle.p3_task.specs.Slots.{words_of}
use Rattle.p3_task.specs.declared.constraint.Constraint.{Constraint, Both', Each', Single, Soft', Row_of-Constraint, end_of-Constraint, more_of-Constraint}
use Rattle.p3_task.specs.declared.constraint.Constraint.TheOpen as layer
use Rattle.p3_task.specs.declared.goal.Pref.{Pref}
use Rattle.p3_task.specs.declared.goal.PreGoal.{PreGoal}
use Rattle.p3_task.specs.declared.goal.PreGoal.TheOpen as goal
use Rattle.p3_task.specs.declared.task.Action.{Action}
use Rattle.p3_task.specs.declared.task.Task.{Task}
use Rattle.p3_task.specs.declared.term.Ref.{Ref}
use Rattle.p3_numbers.specs.Conditions.{condition_of}
use Rattle.p3_numbers.specs.Constraints.{modal_of}
use Rattle.p3_numbers.specs.NumberedModal.{NumberedModal}
use Rattle.p3_numbers.specs.Places.{Variables, ranges_of}
use Rattle.p3_numbers.specs.Slots.{Slots, bound}
use Rattle.p3_numbers.specs.declared.condition.NumberedCondition.{NumberedCondition}
use Rattle.p3_numbers.specs.declared.numbers.Numbers.{Numbers}
use Rattle.p3_scenes.specs.FirstWords.{first_word, first_word_of}

-- ---- operators

-- an operator over conditions, the variables in scope and their objects
pub record Scene : Type 0 where
  pub role : Role
  pub word : Option ℕ
  pub operator : NumberedModal
  pub scope : Variables
  pub slots : Slots

-- an operator of a half at the objects in slots
abbrev pub scene_of : Role → Modal → NumberedModal → Variables → Slots → Scene
scene_of role modal numbered scope slots = record { role = role; word = first_word_of modal; operator = numbered; scope = scope; slots = slots }

-- those outside preferences, or else those within them too
abbrev pub scenes_layer : Numbers → Role → Bool → layer.Constraint-F (Variables → Slots → List Scene) → Variables → Slots → List Scene
scenes_layer N role within (layer.Both parts) scope slots = flat_map (λ part. part scope slots) parts
scenes_layer N role within (layer.Each variables body) scope slots = flat_map (body (scope ++ words_of variables)) (bound N slots (ranges_of N variables))
scenes_layer N role within (layer.Single modal) scope slots = scene_of role modal (modal_of N modal scope) scope slots ∷ []
scenes_layer N role within (layer.Soft at name body) scope slots = if within then body scope slots else []

unfoldable pub scenes : Numbers → Role → Bool → Constraint → Variables → Slots → List Scene
scenes N role within tree = fold_constraint (scenes_layer N role within) tree

-- ---- preferences over the visited states

pub record SoftScene : Type 0 where
  pub role : Role
  pub at : ℕ
  pub name : Option Name
  pub scope : Variables
  pub slots : Slots
  pub operators : List Scene

-- a preference of a half at the objects in slots, with the operators of its body
abbrev pub soft_scene_of : Numbers → Role → ℕ → Option Ref → Constraint → Variables → Slots → SoftScene
soft_scene_of N role at name body scope slots = record { role = role; at = at; name = named name; scope = scope; slots = slots; operators = scenes N role true body scope slots }

unfoldable mutual
  pub soft_scenes : Numbers → Role → Constraint → Variables → Slots → List SoftScene
  soft_scenes N role (Both' _ parts) scope slots = soft_scenes_of_all N role parts scope slots
  soft_scenes N role (Each' variables _ body) scope slots = flat_map (soft_scenes_of_one N role body (scope ++ words_of variables)) (bound N slots (ranges_of N variables))
  soft_scenes N role (Single modal) scope slots = []
  soft_scenes N role (Soft' at name _ body) scope slots = soft_scene_of N role at name (one_constraint body) scope slots ∷ []

  pub soft_scenes_of_all : Numbers → Role → {n : Count} → Row_of-Constraint n → Variables → Slots → List SoftScene
  soft_scenes_of_all N role end_of-Constraint scope slots = []
  soft_scenes_of_all N role (more_of-Constraint part rest) scope slots = soft_scenes N role part scope slots ++ soft_scenes_of_all N role rest scope slots

  pub soft_scenes_of_one : Numbers → Role → {n : Count} → Row_of-Constraint (one_more n) → Variables → Slots → List SoftScene
  soft_scenes_of_one N role (more_of-Constraint part rest) scope slots = soft_scenes N role part scope slots

-- ---- preferences over one state

pub record StateScene : Type 0 where
  pub at : ℕ
  pub name : Option Name
  pub word : Option ℕ
  pub condition : NumberedCondition
  pub scope : Variables
  pub slots : Slots

-- a preference at the objects in slots
abbrev pub state_scene_of : Pref → NumberedCondition → Variables → Slots → StateScene
state_scene_of pref condition scope slots = record { at = pref.at; name = named pref.name; word = first_word pref.body; condition = condition; scope = scope; slots = slots }

abbrev pub state_scenes_layer : Numbers → goal.PreGoal-F (Variables → Slots → List StateScene) → Variables → Slots → List StateScene
state_scenes_layer N (goal.Plain formula) scope slots = []
state_scenes_layer N (goal.Both parts) scope slots = flat_map (λ part. part scope slots) parts
state_scenes_layer N (goal.Each variables body) scope slots = flat_map (body (scope ++ words_of variables)) (bound N slots (ranges_of N variables))
state_scenes_layer N (goal.Soft pref) scope slots = state_scene_of pref (condition_of N pref.body scope) scope slots ∷ []

unfoldable pub state_scenes : Numbers → PreGoal → Variables → Slots → List StateScene
state_scenes N tree = fold_goal (state_scenes_layer N) tree

-- a preference of the goal, over the last state
abbrev pub at_end : StateScene → SoftScene
at_end scene = record {
  role = Problem;
  at = scene.at;
  name = scene.name;
  scope = scene.scope;
  slots = scene.slots;
  operators = record { role = Problem; word = scene.word; operator = AtEnd scene.condition; scope = scene.scope; slots = scene.slots } ∷ [];
}

-- ---- of a task

-- its operators outside preferences, the domain's first
abbrev pub hard_scenes : Task → Numbers → List Scene
hard_scenes T N = scenes N Domain false T.domain.constraints.body [] [] ++ scenes N Problem false T.problem.constraints.body [] []

-- the preferences of the problem's constraints, and then of the goal
abbrev pub problem_scenes : Task → Numbers → List SoftScene
problem_scenes T N = soft_scenes N Problem T.problem.constraints.body [] [] ++ map at_end (state_scenes N T.problem.goal.body [] [])

-- all, those of the domain's constraints first
abbrev pub task_scenes : Task → Numbers → List SoftScene
task_scenes T N = soft_scenes N Domain T.domain.constraints.body [] [] ++ problem_scenes T N

-- the preferences of an action at objects of its parameters
abbrev pub action_scenes : Numbers → Action → Slots → List StateScene
action_scenes N action objects = state_scenes N action.pre.body (words_of action.params) objects
