use Rattle.std.proofs.lemmas.Int.{to_z-of_z}
use Rattle.std.proofs.lemmas.Result.{IfOk-weaker}
use mir.Syntax.{w128}
use Rattle.p3_metric.specs.Entries.{number_at, mixed}
use Rattle.p3_metric.proofs.EntryLemmas.{mixed_swapped, judged_where}
use Rattle.p3_metric.proofs.entries.combined.Goals as goal

pub returns-then-len : goal.returns-then-len
returns-then-len c =
    IfOk-weaker c.merged.result _ _
    (λ judged is. judged_where _ (mixed (number_at c.args.first) c.args.factor (number_at c.args.second) c.args.other) judged
    (λ name. mixed_swapped (number_at c.args.first name) c.args.factor (number_at c.args.second name) c.args.other _ _
    (to_z-of_z w128 c.args.factor c.ranges.factor) (to_z-of_z w128 c.args.other c.ranges.other)) is)
    c.merged.ensures
