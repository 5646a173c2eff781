use Rattle.std.proofs.Common.{ap}
use Rattle.p3_tree.specs.Reports.Watching.{watch_lines}
use Rattle.p3_cli.proofs.following.follow.Goals as goal

pub returns-clause-followed : goal.returns-clause-followed
returns-clause-followed g c =
    let task = c.in_ok-accepted in
    let T = task.accepted.checked.task in
    record {
      report = watch_lines T c.plan.result.now;
      is = record { task = T; accepted = task.ensures.accepted; told = ap (watch_lines T) c.plan.ensures.text };
      tells = c.in_ok-status.ensures.lines;
    }
