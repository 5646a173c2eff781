-- Numbers before the changes of a step in place of numbers after it, each answered once.
use Rattle.std.specs.Prelude.{◌≡◌, ℕ, ◌<◌, List, Option, Some, None, Result, Ok, length, slice_index_or}
use Rattle.std.specs.List.Sorted.{IsPermutation}
use denote.Ref.{Bor}
use Rattle.p3_formula.specs.Nodes.{form_of, Grows}
use Rattle.p3_formula.specs.declared.form.Change.{Change}
use Rattle.p3_formula.specs.declared.node.Node.{Node}
use Rattle.p3_regress.specs.Sorted.{lent, IsRising}
use Rattle.p3_regress.specs.Regressed.{IsTrueBefore, HasAtomsOfBoth, regressed}
use Rattle.p3_regress.specs.Often.{AreNoted}
use Rattle.p3_regress.specs.declared.memory.Memory.{Memory}
use Rattle.p3_regress.specs.declared.often.Noted.{Noted}

-- the answer that a number got
abbrev pub answer_of : List (Option ℕ) → ℕ → Option ℕ
answer_of answers number = slice_index_or answers number None

-- the answer's form before the changes is that of the number after them
pub record IsAnswer (changes : List Change) (nodes : List Node) (number before : ℕ) : Type 0 where
  pub given : number < length nodes
  pub within : before < length nodes
  pub stands : form_of nodes before ≡ regressed changes (form_of nodes number)

pub record AreRight (changes : List Change) (nodes : List Node) (answers : List (Option ℕ)) : Type 0 where
  pub each : (number before : ℕ) → answer_of answers number ≡ Some before → IsAnswer changes nodes number before

-- what was answered is answered alike
abbrev pub KeepsAnswers : List (Option ℕ) → List (Option ℕ) → Type 0
KeepsAnswers old new = (number before : ℕ) → answer_of old number ≡ Some before → answer_of new number ≡ Some before

-- nodes and answers that are there stay, and all answers are right
pub record GoesOn (changes : List Change) (old new : List Node) (answers later : List (Option ℕ)) : Type 0 where
  pub grows : Grows old new
  pub right : AreRight changes new later
  pub keeps : KeepsAnswers answers later

-- all answers of the memory are right, and it goes on to hold what it held
abbrev pub IsRight : List Change → Memory → Type 0
IsRight changes memory = AreRight changes memory.table memory.answers.items

abbrev pub Continues : List Change → Memory → Memory → Type 0
Continues changes old new = GoesOn changes old.table new.table old.answers.items new.answers.items

abbrev pub answer_in : Memory → ℕ → Option ℕ
answer_in memory number = answer_of memory.answers.items number

-- the changes are those of the effects by rising atom, and the answers and what is noted are right
abbrev pub IsUnder : List Change → List (Bor Change) → List Noted → Memory → Type 0
IsUnder effects changes noted memory = IsPermutation effects (lent changes) × IsRising changes × IsRight (lent changes) memory × AreNoted (lent changes) noted

-- what contracts see of a table under regression: its nodes, the effects, and the answers given so far
pub record Regression : Type 0 where
  pub table : List Node
  pub effects : List Change
  pub answers : List (Option ℕ)

-- the effects stay, and so do all nodes and answers that are there
pub record Extends (old new : Regression) : Type 0 where
  pub effects : new.effects ≡ old.effects
  pub grows : Grows old.table new.table
  pub keeps : KeepsAnswers old.answers new.answers

-- before the effects the one number is true where the other is after them
abbrev pub IsNumberBefore : Regression → Regression → ℕ → ℕ → Type 0
IsNumberBefore old new number before = IsTrueBefore old.effects (form_of old.table number) (form_of new.table before)

-- its atoms are those of the other or of a condition
abbrev pub HasAtomsBefore : Regression → Regression → ℕ → ℕ → Type 0
HasAtomsBefore old new number before = HasAtomsOfBoth old.effects (form_of old.table number) (form_of new.table before)

-- a number that was answered is answered alike, and nothing changes
abbrev pub AnswersAgain : {E : Type 0} → Regression → Regression → ℕ → Result ℕ E → Type 0
AnswersAgain old new number result = (before : ℕ) → answer_of old.answers number ≡ Some before → (result ≡ Ok before) × (new ≡ old)
