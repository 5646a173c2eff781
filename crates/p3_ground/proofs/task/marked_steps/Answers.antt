use Rattle.std.proofs.Common.{◌∙◌, sym, ap}
use Rattle.std.specs.List.{list_all}
use Rattle.p3_ground.proofs.WholeLaws.{all-marked}
use Rattle.p3_ground.proofs.task.marked_steps.Goals as goal

pub returns-then-are_all_set : goal.returns-then-are_all_set
returns-then-are_all_set c = λ set are.
    all-marked set c.args.steps (ap (list_all (λ mark. mark)) (sym are) ∙ sym c.are_all_set.ensures ∙ c.if-are_all_set.true)
