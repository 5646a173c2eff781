-- That what is found is what the definitions say of tasks and plans.
use Rattle.std.specs.Prelude.{ℕ, ℤ, pos, ◌≡◌, length, map}
use Rattle.p3_task.specs.Costs.{cost_places}
use Rattle.p3_task.specs.Limits.{instance_count, step_count}
use Rattle.p3_task.specs.Metrics as metrics
use Rattle.p3_task.specs.Names.{Name}
use Rattle.p3_task.specs.Plans.{Plan}
use Rattle.p3_task.specs.PreferenceNames.{ordered_names}
use Rattle.p3_task.specs.declared.task.Task.{Task}
use Rattle.p3_reports.specs.declared.part.NameCount.{NameCount}
use Rattle.p3_reports.specs.declared.quantity.Quantity.{Quantity}
use Rattle.p3_reports.specs.declared.report.CompileReport.{CompileReport}
use Rattle.p3_reports.specs.declared.report.EmbedReport.{EmbedReport}
use Rattle.p3_reports.specs.declared.report.EvaluateReport.{EvaluateReport}
use Rattle.p3_reports.specs.declared.report.GenerateReport.{GenerateReport}
use Rattle.p3_reports.specs.declared.report.LiftReport.{LiftReport}

-- the quantity has so many places and units
pub record IsQuantity (quantity : Quantity) (decimals : ℕ) (amount : ℤ) : Type 0 where
  pub places : quantity.places ≡ decimals
  pub units : quantity.units ≡ amount

-- the metric of a plan
abbrev pub IsMetric : Task → Plan → Quantity → Type 0
IsMetric T plan metric = IsQuantity metric (metrics.metric_places T) (metrics.value T plan)

-- how often the preferences of a name are violated
abbrev pub count_of : Task → Plan → Name → NameCount
count_of T plan name = record { name = name; count = metrics.violated T plan name }

pub record IsCompileReport (T : Task) (report : CompileReport) : Type 0 where
  pub steps : report.steps ≡ step_count T
  pub preferences : report.preferences ≡ instance_count T
  pub base : IsQuantity report.base (metrics.metric_places T) (metrics.base_loss T)
  pub direction : report.direction ≡ metrics.direction T

-- the embedded plan has so many steps and such a cost
pub record IsEmbedReport (T : Task) (len : ℕ) (cost : ℤ) (report : EmbedReport) : Type 0 where
  pub of_task : IsCompileReport T report.task
  pub steps : report.len ≡ len
  pub units : report.cost ≡ cost

pub record IsEvaluateReport (T : Task) (plan : Plan) (report : EvaluateReport) : Type 0 where
  pub steps : report.steps ≡ length plan
  pub cost : IsQuantity report.cost (cost_places T) (pos (metrics.cost T plan))
  pub violations : report.violations ≡ map (count_of T plan) (ordered_names T)
  pub metric : IsMetric T plan report.metric

-- the plan is lifted from one of such a cost
pub record IsLiftReport (T : Task) (plan : Plan) (cost : ℤ) (report : LiftReport) : Type 0 where
  pub steps : report.steps ≡ length plan
  pub units : report.cost ≡ cost
  pub metric : IsMetric T plan report.metric

-- the embedded plan has so many steps and such a cost
pub record IsGenerateReport (T : Task) (plan : Plan) (len : ℕ) (cost : ℤ) (report : GenerateReport) : Type 0 where
  pub steps : report.steps ≡ step_count T
  pub preferences : report.preferences ≡ instance_count T
  pub of_plan : report.plan ≡ length plan
  pub embedded : report.embedded ≡ len
  pub units : report.cost ≡ cost
  pub metric : IsMetric T plan report.metric
