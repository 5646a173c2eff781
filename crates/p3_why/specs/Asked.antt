-- What the words of the command line ask for, and the files that are read then.
use Rattle.std.specs.Prelude.{◌==◌, ◌&&◌, List, [], ◌∷◌, map, zip, length, if◌then◌else◌, Option, Some, None, option_and_then}
use Rattle.std.specs.List.{list_all}
use Rattle.p3_tree.specs.Commands.{Input, Word, input, is_file_word}
use Rattle.p3_why.specs.Questions.{question_of, roles_of}
use Rattle.p3_why.specs.declared.asking.Asking as code
use Rattle.p3_why.specs.declared.question.Question.{Question}

-- a question, with the names of its files
pub record Asking : Type 0 where
  pub question : Question
  pub names : List Word

-- there is a name for each file, and each can name one
abbrev pub if_named : List Word → Question → Option Asking
if_named names question = if length names == length (roles_of question) && list_all is_file_word names then Some (record { question = question; names = names }) else None

-- what the words ask for, or nothing
abbrev pub asking_of : List Word → Option Asking
asking_of [] = None
asking_of (word ∷ names) = option_and_then (if_named names) (question_of word)

abbrev pub inputs_of : Asking → List Input
inputs_of asking = map input (zip (roles_of asking.question) asking.names)

-- the question that the code has
abbrev pub asking_in : code.Asking → Asking
asking_in asking = record { question = asking.question; names = asking.names.now }
