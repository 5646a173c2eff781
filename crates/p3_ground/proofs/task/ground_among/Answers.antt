use Rattle.std.specs.Prelude.{Some}
use Rattle.std.proofs.lemmas.Result.{IfOk-weaker}
use Rattle.p3_ground.specs.Sparse.{IsGroundingAmong}
use Rattle.p3_ground.specs.Whole.{IsWhole}
use Rattle.p3_ground.proofs.WholeLaws.{few-by-name, whole-grounds-among}
use Rattle.p3_ground.proofs.task.ground_among.Goals as goal

pub whole-requires-clause-few : goal.whole-requires-clause-few
whole-requires-clause-few c = few-by-name c.args.task.now.task c.args.task.now.numbered c.task.ensures.well_formed c.numbered.ensures.numbered c.requires.few

pub returns : goal.returns
returns c =
    let checked = c.args.task.now in
    IfOk-weaker c.whole.result (IsWhole checked.task checked.numbered (Some c.args.those.now)) (IsGroundingAmong checked.task c.args.those.now) (whole-grounds-among checked.task checked.numbered c.args.those.now) c.whole.ensures
