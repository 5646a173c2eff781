-- The failures of the parts as failures of the whole.
use Rattle.p3_ground.specs.declared.error.GroundFail.{GroundFail}
use Rattle.p3_ground.specs.declared.error.GroundFail.TheVariants as grounding
use Rattle.p3_metric.specs.declared.error.MetricFail.{MetricFail}
use Rattle.p3_metric.specs.declared.error.MetricFail.TheVariants as metric
use Rattle.p3_eval.specs.declared.error.WholeFail.{WholeFail}
use Rattle.p3_eval.specs.declared.error.WholeFail.TheVariants.{Refused, NoMemory}

abbrev pub fail_of_metric : MetricFail → WholeFail
fail_of_metric (metric.Refused refusal) = Refused refusal
fail_of_metric metric.NoMemory = NoMemory

abbrev pub fail_of_ground : GroundFail → WholeFail
fail_of_ground (grounding.Refused refusal) = Refused refusal
fail_of_ground grounding.NoMemory = NoMemory
