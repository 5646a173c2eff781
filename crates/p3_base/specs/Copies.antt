-- What a translation makes of a step: copies that have its number in their names, or a chain of actions where the step is wide.
use Rattle.std.specs.Prelude.{ℕ, ◌+◌, ◌==◌, nat_lt, Bool, true, false, ◌||◌, ◌++◌, codes, decimal, if◌then◌else◌}
use Rattle.std.specs.List.{starts_with}
use Rattle.p3_base.specs.Words.{Name}

-- `s`, the number and `v`: what the names of the copies of a step begin with
abbrev pub copy_prefix : ℕ → Name
copy_prefix number = codes "s" ++ decimal number ++ codes "v"

-- the name of a copy of a step
abbrev pub copy_name : ℕ → Name → Name
copy_name number rest = codes "s" ++ (decimal number ++ (codes "v" ++ rest))

abbrev pub is_copy_of : ℕ → Name → Bool
is_copy_of number name = starts_with ◌==◌ name (copy_prefix number)

-- a step with more than 8 weighted preferences is wide: it has an action for each of them beside its first one, and one for its end
abbrev pub extra_of : ℕ → ℕ
extra_of width = if nat_lt 8 width then width + 1 else 0

-- ---- the chain of a wide step, behind its first action

-- `q`, the number of the step, and what follows
abbrev pub question_name : ℕ → Name → Name
question_name number rest = codes "q" ++ (decimal number ++ rest)

-- `y` or `n`, and the place of the question
abbrev pub answer_name : Bool → ℕ → ℕ → Name
answer_name true number place = question_name number (codes "y" ++ decimal place)
answer_name false number place = question_name number (codes "n" ++ decimal place)

abbrev pub end_name : ℕ → Name
end_name number = question_name number (codes "end")

-- the name of an answer, or of the end
pub data IsQuestionOf (number : ℕ) : Name → Type 0 where
  Answer : (holds : Bool) (place : ℕ) → IsQuestionOf number (answer_name holds number place)
  End : IsQuestionOf number (end_name number)

-- ---- the actions of a step

-- the name that an action of the step has
pub data IsNamedFor (number : ℕ) : Name → Type 0 where
  Copy : (rest : Name) → IsNamedFor number (copy_name number rest)
  Question : (name : Name) → IsQuestionOf number name → IsNamedFor number name

-- `q`, the number and the first letter of an answer or of the end stand in front
abbrev pub is_question_of : ℕ → Name → Bool
is_question_of number name =
    starts_with ◌==◌ name (question_name number (codes "y"))
    || (starts_with ◌==◌ name (question_name number (codes "n")) || starts_with ◌==◌ name (question_name number (codes "e")))

-- the name begins as that of an action of the step
abbrev pub is_action_of : ℕ → Name → Bool
is_action_of number name = is_copy_of number name || is_question_of number name
