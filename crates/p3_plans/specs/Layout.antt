-- The bytes of a written plan.
use Rattle.std.specs.Prelude.{ℕ, Bool, ◌&&◌, List, ◌++◌, codes}
use Rattle.std.specs.List.{list_all, flat_map}
use Rattle.p3_base.specs.Words.{is_lowered}
use Rattle.p3_task.specs.Names.{Name}
use Rattle.p3_task.specs.Plans.{Plan}
use Rattle.p3_task.specs.PlanTexts.{is_plan_word}
use Rattle.p3_task.specs.declared.task.Step.{Step}

abbrev pub argument_layout : Name → List ℕ
argument_layout name = codes " " ++ name

-- a step is a line, of an action's name and the arguments
abbrev pub line_layout : Name → List Name → List ℕ
line_layout action arguments = codes "(" ++ (action ++ (flat_map argument_layout arguments ++ codes ")\n"))

abbrev pub step_layout : Step → List ℕ
step_layout step = line_layout step.action step.args

abbrev pub plan_layout : Plan → List ℕ
plan_layout plan = flat_map step_layout plan

-- a word in lower case that is no variable and no keyword
abbrev pub is_written_word : Name → Bool
is_written_word name = is_plan_word name && list_all is_lowered name

abbrev pub has_written_words : Step → Bool
has_written_words step = is_written_word step.action && list_all is_written_word step.args
