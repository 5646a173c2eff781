-- What `generate` makes.
use Rattle.std.specs.Prelude.{ℕ, ◌≡◌, List, length}
use Rattle.p3_task.specs.Faithful.{Faithful}
use Rattle.p3_task.specs.Metrics.{value}
use Rattle.p3_task.specs.Plans.{Plan}
use Rattle.p3_tree.specs.Reports.Plans.{generated_lines}
use Rattle.p3_tree.specs.Samples.{sample_domain, sample_problem, sample_plan}
use Rattle.p3_task.specs.Validity.{Valid}
use Rattle.p3_task.specs.declared.task.Task.{Task}
use Rattle.p3_cli.specs.Embedding.{IsSource}
use Rattle.p3_cli.specs.Evaluation.{AreOfPlan}

-- the report tells of the task and of the plan, and of the plan's source in a faithful translation
pub record IsSampled (T : Task) (plan : Plan) (report : List ℕ) : Type 0 where
  pub written : Task
  pub faithful : Faithful T written
  pub source : Plan
  pub embeds : IsSource T written plan source
  pub told : report ≡ generated_lines T plan (length source) (value written source)

-- nothing is refused of the texts of a task and of a plan, the plan is valid, and the report tells of them
pub record IsSampleReport (d p q report : List ℕ) : Type 0 where
  pub task : Task
  pub plan : Plan
  pub of : AreOfPlan d p q task plan
  pub valid : Valid task plan
  pub sampled : IsSampled task plan report

-- the texts are the sample of that number, and the report tells of it
pub record IsSampling (number : ℕ) (d p q report : List ℕ) : Type 0 where
  pub domain : d ≡ sample_domain
  pub problem : p ≡ sample_problem number
  pub plan : q ≡ sample_plan number
  pub reported : IsSampleReport d p q report
