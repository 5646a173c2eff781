-- The named operators and preferences that scenes stand for.
use Rattle.std.specs.Prelude.{◌≡◌, true, List, [], map, ◌++◌}
use Rattle.std.specs.List.{AllZip}
use Rattle.p3_base.specs.declared.refusal.Role.{Role}
use Rattle.p3_base.specs.declared.refusal.Role.TheVariants.{Domain, Problem}
use Rattle.p3_task.specs.Constraints.{HardModal, Instance, domain_instances, hard_modals, problem_instances}
use Rattle.p3_task.specs.Constraints as named
use Rattle.p3_task.specs.Goals.{StatePref}
use Rattle.p3_task.specs.declared.task.Task.{Task}
use Rattle.p3_numbers.specs.Conditions.{condition_of, is_known_formula}
use Rattle.p3_numbers.specs.Constraints.{modal_of, is_known_modal}
use Rattle.p3_numbers.specs.Places.{Fills, environment_of}
use Rattle.p3_numbers.specs.declared.numbers.Numbers.{Numbers}
use Rattle.p3_scenes.specs.FirstWords.{first_word, first_word_of}
use Rattle.p3_scenes.specs.Scenes.{Scene, SoftScene, StateScene}

-- ---- one of each

-- the operator with the numbers of its names, at the objects that its environment has for the variables in scope
pub record IsBound (N : Numbers) (hard : HardModal) (scene : Scene) : Type 0 where
  pub fills : Fills N scene.scope scene.slots
  pub env : hard.env ≡ environment_of N scene.scope scene.slots
  pub operator : scene.operator ≡ modal_of N hard.modal scene.scope
  pub known : is_known_modal N hard.modal scene.scope ≡ true
  pub word : scene.word ≡ first_word_of hard.modal

-- the preference, with its operators in order
pub record IsBoundSoft (T : Task) (N : Numbers) (instance : Instance) (scene : SoftScene) : Type 0 where
  pub fills : Fills N scene.scope scene.slots
  pub env : instance.env ≡ environment_of N scene.scope scene.slots
  pub at : scene.at ≡ instance.at
  pub name : scene.name ≡ instance.name
  pub operators : AllZip (IsBound N) (named.operators T instance.env instance.body) scene.operators
  pub roles : map (λ (operator : Scene). operator.role) scene.operators ≡ map (λ (hard : HardModal). scene.role) (named.operators T instance.env instance.body)

pub record IsBoundPref (N : Numbers) (pref : StatePref) (scene : StateScene) : Type 0 where
  pub fills : Fills N scene.scope scene.slots
  pub env : pref.env ≡ environment_of N scene.scope scene.slots
  pub at : scene.at ≡ pref.at
  pub name : scene.name ≡ pref.name
  pub condition : scene.condition ≡ condition_of N pref.body scene.scope
  pub known : is_known_formula N pref.body scene.scope ≡ true
  pub word : scene.word ≡ first_word pref.body

-- ---- all of a task

-- the half in which each hard operator of a task stands
abbrev pub hard_roles : Task → List Role
hard_roles T = map (λ (hard : HardModal). Domain) (hard_modals T [] T.domain.constraints.body) ++ map (λ (hard : HardModal). Problem) (hard_modals T [] T.problem.constraints.body)

-- and each instance of a preference
abbrev pub instance_roles : Task → List Role
instance_roles T = map (λ (instance : Instance). Domain) (domain_instances T) ++ map (λ (instance : Instance). Problem) (problem_instances T)
