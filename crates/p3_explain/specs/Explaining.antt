-- Why a plan is not explained.
use Rattle.std.specs.Prelude.{◌≡◌, Some}
use Rattle.p3_task.specs.Plans.{Plan}
use Rattle.p3_task.specs.Validity.{step_fault}
use Rattle.p3_task.specs.declared.task.Task.{Task}
use Rattle.p3_eval.specs.Judged.{fault_in}
use Rattle.p3_explain.specs.declared.error.ExplainFail.{ExplainFail}
use Rattle.p3_explain.specs.declared.error.ExplainFail.TheVariants as fail

-- the least step that does not fit; want of memory may come at any time
abbrev pub IsExplainFail : Task → Plan → ExplainFail → Type 0
IsExplainFail T plan (fail.Fault fault) = step_fault T plan ≡ Some (fault_in fault)
IsExplainFail T plan fail.NoMemory = Unit {0}
