-- What it is that two texts are those of a task.
use Rattle.std.specs.Prelude.{◌≡◌, ℕ, List, None}
use Rattle.p3_task.specs.Tokens.{tokens_of}
use Rattle.p3_task.specs.Expressions.{Spells}
use Rattle.p3_task.specs.Grammar.Halves.{IsTaskText}
use Rattle.p3_task.specs.declared.expression.Expression.{Expression}
use Rattle.p3_task.specs.declared.task.Task.{Task}

-- no byte of the text is foreign, and its tokens spell the expression
pub record IsBalanced (text : List ℕ) (e : Expression) : Type 0 where
  pub known : (tokens_of text).foreign ≡ None
  pub spelled : Spells (tokens_of text).tokens e

-- the two texts are those of the halves of the task
pub record Reads (d p : List ℕ) (T : Task) : Type 0 where
  pub domain : Expression
  pub problem : Expression
  pub domain_balanced : IsBalanced d domain
  pub problem_balanced : IsBalanced p problem
  pub texts : IsTaskText domain problem T
