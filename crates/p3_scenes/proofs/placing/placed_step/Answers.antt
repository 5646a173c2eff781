use Rattle.p3_scenes.proofs.PlacingLaws.{placed-is}
use Rattle.p3_scenes.proofs.placing.placed_step.Goals as goal

pub returns : goal.returns
returns c = placed-is c.args.checked.now.task c.args.checked.now.numbered c.args.number _ _ c.in_ok-action.ensures
