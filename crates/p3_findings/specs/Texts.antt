-- The texts of a task and of a plan for it, without references.
use Rattle.std.specs.Prelude.{ℕ, List}
use Rattle.p3_unmet.specs.Sources as sources
use Rattle.p3_findings.specs.declared.texts.PlanTexts.{PlanTexts}

pub record Read : Type 0 where
  pub domain : List ℕ
  pub problem : List ℕ
  pub plan : List ℕ

abbrev pub read : PlanTexts → Read
read texts = record { domain = texts.domain.now; problem = texts.problem.now; plan = texts.plan.now }

-- those of the task
abbrev pub halves : Read → sources.Texts
halves texts = record { domain = texts.domain; problem = texts.problem }
