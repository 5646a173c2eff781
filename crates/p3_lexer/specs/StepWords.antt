-- The words that a lexer gives one after another, as those of a step's text.
use Rattle.std.specs.Prelude.{◌≡◌, ℕ, List, [], ◌∷◌, take, drop, length, slice_get, Option, Some, None}
use Rattle.std.specs.Option.{option_map}
use Rattle.std.specs.Str.{str_to_ascii_lowercase}
use denote.Ref.{Bor}
use Rattle.p3_lexer.specs.Lexing.{Progress, left}
use Rattle.p3_task.specs.Names.{Name}
use Rattle.p3_task.specs.Tokens.{Token, Open, Close, Word}
use Rattle.p3_task.specs.declared.task.Step.{Step}

-- the words that stand first
abbrev pub first_words : List Token → List Name
first_words [] = []
first_words (Open at ∷ later) = []
first_words (Close at ∷ later) = []
first_words (Word at text ∷ later) = text ∷ first_words later

-- those of what is left of a text
abbrev pub words_left : Progress → List Name
words_left progress = first_words (left progress).tokens

-- a word that is given, lowered, was the first; where none is given, none came next
abbrev pub IsNextWord : Progress → Option (Bor Name) → Progress → Type 0
IsNextWord old None new = words_left old ≡ []
IsNextWord old (Some word) new = words_left old ≡ str_to_ascii_lowercase word.now ∷ words_left new

-- the bytes stand somewhere in the text
pub record IsPartOf (text bytes : List ℕ) : Type 0 where
  pub offset : ℕ
  pub slice : bytes ≡ take (length bytes) (drop offset text)

-- the name of a step's action at place 0, and then its arguments
abbrev pub step_words : Step → List Name
step_words step = step.action ∷ step.args

-- a word that is given, lowered, is the step's at that place; none is given past the last one
abbrev pub IsWordAt : Step → ℕ → Option (Bor Name) → Type 0
IsWordAt step place given = option_map (λ (word : Bor Name). str_to_ascii_lowercase word.now) given ≡ slice_get (step_words step) place
