use Rattle.std.proofs.lemmas.Result.{IfOk-weaker}
use Rattle.p3_monitors.proofs.monitoring.Monitor.effects_by.Goals as goal

pub returns-clause-kept : goal.returns-clause-kept
returns-clause-kept c = IfOk-weaker c.updates.result _ _ (λ effects update. update.kept c.requires.apart) c.updates.ensures.update
