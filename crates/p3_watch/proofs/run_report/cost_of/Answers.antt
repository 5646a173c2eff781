use Rattle.p3_watch.proofs.run_report.cost_of.Goals as goal

pub invariant_of-result : goal.invariant_of-result
invariant_of-result c = record { few = c.cost_places.ensures.few }
