-- The steps of a written task.
use Rattle.std.specs.Prelude.{ℕ, List, [], codes, flat_map, slice_get, Option, Some, None}
use Rattle.p3_base.specs.declared.refusal.Role.TheVariants.{Domain}
use Rattle.p3_task.specs.Lifting.{steps}
use Rattle.p3_task.specs.Plans.{action_named}
use Rattle.p3_task.specs.declared.task.Action.{Action}
use Rattle.p3_task.specs.declared.task.Step.{Step}
use Rattle.p3_task.specs.declared.task.Task.{Task}
use Rattle.p3_formula.specs.declared.task.GroundStep.{GroundStep}
use Rattle.p3_accounts.specs.Vocabularies.{Vocabulary}
use Rattle.p3_accounts.specs.Words.{step_text}
use Rattle.p3_accounts.specs.declared.spot.Spot.{Spot}
use Rattle.p3_unmet.specs.Sources.{Texts, spot_of}
use Rattle.p3_meanings.specs.Said.{Said, said_line}

-- that of the name of an action, where there is one
abbrev pub action_spot : Texts → Option Action → Option Spot
action_spot texts None = None
action_spot texts (Some action) = Some (spot_of texts Domain action.name.at)

-- the words of the step, and the place of its action
abbrev pub step_said : Texts → Task → Step → Said
step_said texts T step = record { letter = codes "s"; spot = action_spot texts (action_named T step.action); text = step_text step }

abbrev pub line_by : Vocabulary → Texts → Task → ℕ → Option Step → List ℕ
line_by V texts T number None = []
line_by V texts T number (Some step) = said_line V number (step_said texts T step)

-- the step that has the number among all steps of the task
abbrev pub step_line : Vocabulary → Texts → Task → ℕ → List ℕ
step_line V texts T number = line_by V texts T number (slice_get (steps T) number)

-- those that are kept
abbrev pub step_lines : Vocabulary → Texts → Task → List GroundStep → List ℕ
step_lines V texts T kept = flat_map (λ (step : GroundStep). step_line V texts T step.number) kept
