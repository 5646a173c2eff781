-- What `embed` makes of the texts of a task and of a plan for it.
use Rattle.std.specs.Prelude.{ℕ, ◌≡◌, List, length}
use Rattle.p3_task.specs.Faithful.{Faithful}
use Rattle.p3_task.specs.Grammar.Texts.{Reads}
use Rattle.p3_task.specs.Lifting.{lift}
use Rattle.p3_task.specs.Metrics.{value}
use Rattle.p3_task.specs.Plans.{Plan}
use Rattle.p3_task.specs.PlanTexts.{IsPlanText}
use Rattle.p3_tree.specs.Reports.Plans.{embedded_lines}
use Rattle.p3_task.specs.Validity.{Valid}
use Rattle.p3_task.specs.declared.task.Task.{Task}
use Rattle.p3_formula.specs.declared.target.Target.{Target}
use Rattle.p3_embed.specs.Plans.{steps_at}
use Rattle.p3_plans.specs.Layout.{plan_layout}
use Rattle.p3_cli.specs.Evaluation.{AreOfPlan}

-- the one valid plan of the written task that lifts to the plan
pub record IsSource (T U : Task) (plan source : Plan) : Type 0 where
  pub valid : Valid U source
  pub lifts : lift T source ≡ plan
  pub only : (other : Plan) → Valid U other → lift T other ≡ plan → other ≡ source

-- the text of the plan of the actions at those places of a target
abbrev pub source_layout : Target → List ℕ → List ℕ
source_layout X places = plan_layout (steps_at X places)

-- the texts od and op are a faithful translation of the task, and the third is one of the plan's source
pub record IsEmbedded (T : Task) (plan : Plan) (od op text report : List ℕ) : Type 0 where
  pub written : Task
  pub reads : Reads od op written
  pub faithful : Faithful T written
  pub source : Plan
  pub spelled : IsPlanText text source
  pub embeds : IsSource T written plan source
  pub told : report ≡ embedded_lines T (length source) (value written source)

-- nothing is refused of d, p and q, the plan is valid, and the texts and the report are made of the task and of the plan
pub record IsEmbedding (d p q od op text report : List ℕ) : Type 0 where
  pub task : Task
  pub plan : Plan
  pub texts : AreOfPlan d p q task plan
  pub valid : Valid task plan
  pub embedded : IsEmbedded task plan od op text report
