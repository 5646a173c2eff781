use Rattle.std.proofs.Common.{◌∙◌, sym, ap}
use Rattle.p3_task.specs.Refusals.Counts.{size_refusals}
use Rattle.p3_task.specs.Refusals.Places.{first_some}
use Rattle.p3_ground.proofs.WholeLaws.{few-steps}
use Rattle.p3_ground.proofs.task.ground.Goals as goal

pub whole-requires-clause-few : goal.whole-requires-clause-few
whole-requires-clause-few c =
    let T = c.args.task.now.task in
    few-steps T c.args.task.now.numbered c.side.result c.task.ensures.well_formed c.numbered.ensures.numbered
    (ap (λ task. first_some (size_refusals c.side.result task)) (sym c.task.ensures.task) ∙ sym c.in_ok-refusal.ensures ∙ c.in_default.is)
