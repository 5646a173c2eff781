use Rattle.p3_cli.proofs.WideLaws.{wide_actions_are_of_wide_steps}
use Rattle.p3_cli.proofs.laws.wide_actions_have_wide_steps.Goals as goal

pub returns : goal.returns
returns c = wide_actions_are_of_wide_steps
