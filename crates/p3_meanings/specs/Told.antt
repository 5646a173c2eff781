-- The scenes and numbers by which the names of constraints and preferences are told.
use Rattle.std.specs.Prelude.{◌≡◌, List, map}
use Rattle.std.specs.List.{AllZip}
use Rattle.p3_task.specs.Constraints.{Instance, instances}
use Rattle.p3_task.specs.declared.task.Task.{Task}
use Rattle.p3_formula.specs.declared.modal.GroundSoft.{GroundSoft}
use Rattle.p3_numbers.specs.declared.numbers.Numbers.{Numbers}
use Rattle.p3_ground.specs.StandsFor.{number_of_name}
use Rattle.p3_scenes.specs.Bound.{IsBoundSoft, instance_roles}
use Rattle.p3_scenes.specs.Scenes.{SoftScene}

-- each instance of a preference has the number of its name
abbrev pub HasNumber : Task → Instance → GroundSoft → Type 0
HasNumber T instance soft = soft.name ≡ number_of_name T instance.name

abbrev pub AreNamed : Task → List GroundSoft → Type 0
AreNamed T softs = AllZip (HasNumber T) (instances T) softs

-- those of the instances of preferences, in order
pub record AreScenesOf (T : Task) (N : Numbers) (scenes : List SoftScene) : Type 0 where
  pub bound : AllZip (IsBoundSoft T N) (instances T) scenes
  pub roles : map (λ (scene : SoftScene). scene.role) scenes ≡ instance_roles T
