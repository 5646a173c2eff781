-- What it is to embed a plan of a task in a target.
use Rattle.std.specs.Prelude.{◌≡◌, ℕ, List, [], map, slice_index_or, true, Some}
use Rattle.p3_task.specs.Names.{Name}
use Rattle.p3_task.specs.Plans.{Plan}
use Rattle.p3_task.specs.Validity.{first_fault}
use Rattle.p3_task.specs.declared.task.Step.{Step}
use Rattle.p3_task.specs.declared.task.Task.{Task}
use Rattle.p3_formula.specs.GroundPlans.{GroundPlan}
use Rattle.p3_formula.specs.Targets.{action_names}
use Rattle.p3_formula.specs.declared.target.Target.{Target}
use Rattle.p3_formula.specs.declared.task.GroundTask.{GroundTask}
use Rattle.p3_ground.specs.PlansByNumber.{AreNumbers, are_bare, names_of}
use Rattle.p3_eval.specs.Judged.{HasItsStep, fault_in}
use Rattle.p3_embed.specs.Embeds.{IsEmbedded}
use Rattle.p3_embed.specs.declared.error.EmbedFail.{EmbedFail}
use Rattle.p3_embed.specs.declared.error.EmbedFail.TheVariants.{Invalid, NoMemory}

-- the step of that name, without arguments
abbrev pub bare_step : Name → Step
bare_step name = record { action = name; args = [] }

-- the steps of the actions at those places of a target
abbrev pub steps_at : Target → List ℕ → Plan
steps_at X places = map (λ place. bare_step (slice_index_or (action_names X) place [])) places

-- no step of it has arguments, and its names are the one valid plan of the target that lifts to the numbers of the plan's steps
pub record IsEmbeddedPlan (T : Task) (G : GroundTask) (X : Target) (plan q : Plan) : Type 0 where
  pub numbers : GroundPlan
  pub are : AreNumbers T plan numbers
  pub bare : are_bare q ≡ true
  pub embedded : IsEmbedded G X numbers (names_of q)

-- the plan is not valid, and this is its first fault, with the step that it has
abbrev pub IsFailOf : Task → Plan → EmbedFail → Type 0
IsFailOf T plan (Invalid fault) = (first_fault T plan ≡ Some (fault_in fault)) × HasItsStep fault
IsFailOf T plan NoMemory = Unit {0}
