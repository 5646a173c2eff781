-- Formulas as they are read.
use Rattle.std.specs.Prelude.{List, Option, Some}
use Rattle.p3_task.specs.Grammar.Words.{◌>>=◌, pair}
use Rattle.p3_task.specs.Grammar.Formulas.{formula_place}
use Rattle.p3_task.specs.declared.expression.Expression.{Expression}
use Rattle.p3_task.specs.declared.formula.Formula.{Formula}

abbrev pub two_formulas : List Expression → Option (Formula × Formula)
two_formulas parts = do
  both ← pair parts
  first ← formula_place both.0
  second ← formula_place both.1
  Some (first, second)
