use Rattle.p3_ground.proofs.StepChoices.{steps-are-at-choices, numbers-are-choices}
use Rattle.p3_ground.proofs.step_parts.steps_are_at_choices.Goals as goal

pub returns : goal.returns
returns c = record { at = steps-are-at-choices; all = numbers-are-choices }
