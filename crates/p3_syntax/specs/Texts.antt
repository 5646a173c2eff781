-- What is said of the text of a half.
use Rattle.std.specs.Prelude.{ℕ, List}
use Rattle.p3_task.specs.declared.expression.Expression.{Expression}
use Rattle.p3_task.specs.Grammar.Words.{Place, IsText}
use Rattle.p3_task.specs.Grammar.Texts.{IsBalanced}

-- The text spells an expression that has this tree at the place. A text spells one expression at most,
-- and a place gives an expression one tree at most.
pub record IsHalfText {A : Type 0} (place : Place A) (text : List ℕ) (tree : A) : Type 0 where
  pub expression : Expression
  pub balanced : IsBalanced text expression
  pub reads : IsText place expression tree
