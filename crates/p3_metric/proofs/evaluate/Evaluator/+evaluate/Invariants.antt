use Rattle.std.proofs.Common.{take}
use Rattle.p3_task.specs.declared.metric.Num.TheVariants as num
use Rattle.p3_metric.specs.Evaluation.{IsPartial}
use Rattle.p3_metric.proofs.evaluate.Evaluator.+evaluate.Given as goal

abbrev pub invariant-sum-loop-part : goal.invariant-sum-loop-part
invariant-sum-loop-part l = IsPartial l.self.task.now (num.Sum l.at) (take l.part-index l.parts) l.sum

abbrev pub invariant-product-loop-part : goal.invariant-product-loop-part
invariant-product-loop-part l = IsPartial l.self.task.now (num.Product l.at) (take l.part-index l.parts) l.done
