-- What it is that two texts are those of a task, but for where its parts stand in them, and that a text is the layout of a plan.
use Rattle.std.specs.Prelude.{◌≡◌, ℕ, List}
use Rattle.p3_task.specs.Erased.{erased}
use Rattle.p3_task.specs.Grammar.Texts.{Reads}
use Rattle.p3_task.specs.Faithful.{Faithful}
use Rattle.p3_task.specs.Plans.{Plan}
use Rattle.p3_task.specs.PlanTexts.{IsPlanText}
use Rattle.p3_task.specs.declared.task.Task.{Task}
use Rattle.p3_plans.specs.Layout.{plan_layout}

-- the grammar reads the texts as a task that differs from this one in offsets and in the lengths of numerals alone
abbrev pub HasText : List ℕ → List ℕ → Task → Type 0
HasText d p task = (read : Task) × Reads d p read × (erased read ≡ erased task)

-- the grammar reads the texts as a faithful translation of the task
abbrev pub HasFaithfulText : List ℕ → List ℕ → Task → Type 0
HasFaithfulText d p task = (read : Task) × Reads d p read × Faithful task read

-- the text is the layout of the plan that it spells: a line for each step
pub record HasPlanLayout (text : List ℕ) : Type 0 where
  pub plan : Plan
  pub spelled : IsPlanText text plan
  pub layout : text ≡ plan_layout plan
