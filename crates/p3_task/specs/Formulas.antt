-- Truth of formulas: first-order logic over the declared objects (ADL's conditions).
use Rattle.std.specs.Prelude.{Bool, not}
use Rattle.std.specs.List.{list_any, list_all}
use Rattle.p3_base.specs.Connectives.{◌implies◌}
use Rattle.p3_task.specs.Folds.{fold_formula}
use Rattle.p3_task.specs.Names.{same_name}
use Rattle.p3_task.specs.States.{State, Environment, has_fact, fact_of, meaning}
use Rattle.p3_task.specs.Bindings.{bind}
use Rattle.p3_task.specs.declared.formula.Formula.{Formula}
use Rattle.p3_task.specs.declared.formula.Formula.TheOpen.{Formula-F, Atom, Equal, And, Or, Not, Imply, Exists, Forall}
use Rattle.p3_task.specs.declared.task.Task.{Task}

-- each part stands as its truth in an environment
abbrev pub holds_layer : Task → State → Formula-F (Environment → Bool) → Environment → Bool
holds_layer T s (Atom pred args) env = has_fact s (fact_of env pred args)
holds_layer T s (Equal left right) env = same_name (meaning env left) (meaning env right)
holds_layer T s (And parts) env = list_all (λ part. part env) parts
holds_layer T s (Or parts) env = list_any (λ part. part env) parts
holds_layer T s (Not part) env = not (part env)
holds_layer T s (Imply first second) env = first env implies second env
holds_layer T s (Exists variables body) env = list_any body (bind T env variables)
holds_layer T s (Forall variables body) env = list_all body (bind T env variables)

unfoldable pub holds : Task → State → Environment → Formula → Bool
holds T s env formula = fold_formula (holds_layer T s) formula env
