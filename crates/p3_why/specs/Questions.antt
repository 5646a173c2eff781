-- What may be asked, by its word, and which files are read then.
use Rattle.std.specs.Prelude.{find, List, [], ◌∷◌, Option, codes, bytes_eq}
use Rattle.p3_base.specs.declared.refusal.Role.{Role}
use Rattle.p3_base.specs.declared.refusal.Role.TheVariants as role
use Rattle.p3_tree.specs.Commands.{Word}
use Rattle.p3_why.specs.declared.question.Question.{Question}
use Rattle.p3_why.specs.declared.question.Question.TheVariants.{Plan, Names}

abbrev pub word_of : Question → Word
word_of Plan = codes "plan"
word_of Names = codes "names"

-- what the files are that are read, in the order of the command line
abbrev pub roles_of : Question → List Role
roles_of Plan = role.Domain ∷ role.Problem ∷ role.Plan ∷ []
roles_of Names = role.Domain ∷ role.Problem ∷ []

abbrev pub question_of : Word → Option Question
question_of word = find (λ question. bytes_eq (word_of question) word) (Plan ∷ Names ∷ [])
