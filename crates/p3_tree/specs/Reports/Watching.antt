-- What `watch` prints: behind each line of a plan text what that line comes to.
use Rattle.std.specs.Prelude.{ℕ, ◌+◌, List, [], ◌∷◌, ◌++◌, length, Option, Some, None}
use Rattle.p3_base.specs.declared.refusal.Refusal.{Refusal}
use Rattle.p3_task.specs.Plans.{Plan}
use Rattle.p3_task.specs.Validity.{Fault, AtStep, first_fault}
use Rattle.p3_task.specs.Watching.{Answer, Blank, Taken, Unfit, Refused, Piece, answer_to, lines_of, taken_after}
use Rattle.p3_tree.specs.Reports.Plans.{evaluated_lines, fault_line}
use Rattle.p3_tree.specs.Reports.Refusals.{refusal_line}
use Rattle.p3_task.specs.declared.task.Task.{Task}

-- what `evaluate` prints of the plan: its value where it is valid, and else its first fault
abbrev pub judged_by : Task → Plan → Option Fault → List ℕ
judged_by T plan None = evaluated_lines T plan
judged_by T plan (Some fault) = fault_line fault

unfoldable pub judged_lines : Task → Plan → List ℕ
judged_lines T plan = judged_by T plan (first_fault T plan)

-- a refusal whose offset counts from there on
abbrev pub moved : ℕ → Refusal → Refusal
moved at offence = record { code = offence.code; pos = record { role = offence.pos.role; offset = at + offence.pos.offset }; len = offence.len }

-- the block of a line that begins there in the whole text
abbrev pub block : Task → List ℕ → ℕ → Plan → Answer → List ℕ
block T whole at plan Blank = []
block T whole at plan (Taken step) = judged_lines T (plan ++ step ∷ [])
block T whole at plan (Unfit kind) = fault_line (AtStep (length plan + 1) kind)
block T whole at plan (Refused offence) = refusal_line whole (moved at offence)

-- one block for each line, behind the steps taken so far
unfoldable pub blocks : Task → List ℕ → Plan → List Piece → List ℕ
blocks T whole plan [] = []
blocks T whole plan (piece ∷ pieces) =
    block T whole piece.at plan (answer_to T plan piece.bytes) ++ blocks T whole (taken_after plan (answer_to T plan piece.bytes)) pieces

unfoldable pub watch_lines : Task → List ℕ → List ℕ
watch_lines T text = blocks T text [] (lines_of text)
