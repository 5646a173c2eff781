use Rattle.p3_steps.proofs.CostLemmas.{values-more}
use Rattle.p3_steps.proofs.costs.table_of.Goals as goal

pub loop-value-preserved : goal.loop-value-preserved
loop-value-preserved c = values-more c.args.places c.args.values.now c.loop-value.value-index c.value-item.result c.loop-value.table c.note_value.new.table c.loop-value-test.true c.value-item.is c.loop-value.invariant c.in_ok-note_value.ensures
