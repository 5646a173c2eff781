-- Metrics as they are read.
use Rattle.std.specs.Prelude.{List, Option, None}
use Rattle.p3_task.specs.Grammar.Words.{choose}
use Rattle.p3_task.specs.Grammar.Metrics.{num_forms, num_place, trees_of, violated_form}
use Rattle.p3_task.specs.Grammar.Metrics as metrics
use Rattle.p3_task.specs.declared.expression.Expression.{Expression}
use Rattle.p3_task.specs.declared.term.Ref.{Ref}
use Rattle.p3_task.specs.declared.metric.Num.{Num}
use Rattle.p3_outline.specs.declared.view.Parts.{Parts}
use Rattle.p3_syntax.specs.declared.tree.words.TextWord.{TextWord}
use Rattle.p3_outline.specs.Nodes.{expressions_of}
use Rattle.p3_syntax.specs.Trees.{any_word, the_word, listed}

-- what a form makes of the parts behind its word
abbrev pub num_at : (Ref → metrics.Parts → Option Num) → TextWord → Parts → Option Num
num_at form word behind = form (the_word word) (listed num_place (expressions_of behind))

abbrev pub violated_at : Parts → Option Num
violated_at behind = violated_form any_word (listed num_place (expressions_of behind))

abbrev pub nums_at : Parts → Option (List Num)
nums_at parts = trees_of (listed num_place (expressions_of parts))

-- the number of a list with this first word
abbrev pub num_of : Ref → List Expression → Option Num
num_of head behind = choose head.name num_forms (λ head behind. None) head (listed num_place behind)

abbrev pub num_by : TextWord → Parts → Option Num
num_by word behind = num_of (the_word word) (expressions_of behind)
