-- What an expression is evaluated to, in the order of evaluation.
use Rattle.std.specs.Prelude.{◌≡◌, ◌≤◌, true, List, [], find, Option, None, Some, option_map}
use Rattle.p3_base.specs.declared.refusal.Code.TheVariants.{CostTooLarge}
use Rattle.p3_base.specs.declared.refusal.Refusal.{Refusal}
use Rattle.p3_base.specs.declared.refusal.Role.{Role}
use Rattle.p3_task.specs.Metrics.{metric_quantity, no_counts, quantity}
use Rattle.p3_task.specs.Refusals.Metric.{is_large, is_within, nonlinear, operations, operator}
use Rattle.p3_task.specs.Refusals.Places.{refusal_at_word}
use Rattle.p3_task.specs.Sides.{weight_bound}
use Rattle.p3_task.specs.declared.metric.Num.{Num}
use Rattle.p3_task.specs.declared.task.Task.{Task}
use Rattle.p3_metric.specs.Forms.{IsBounded, IsForm, IsFormOf}
use Rattle.p3_metric.specs.Operations.{operations_from}
use Rattle.p3_metric.specs.declared.error.MetricFail.{MetricFail}
use Rattle.p3_metric.specs.declared.error.MetricFail.TheVariants.{Refused, NoMemory}
use Rattle.p3_metric.specs.declared.linear.Linear.{Linear}

-- an expression that a form can stand for: no product of two quantities stands in it, and it has few decimal places
pub record IsFit (T : Task) (tree : Num) : Type 0 where
  pub linear : nonlinear tree ≡ []
  pub places : (quantity T no_counts 0 tree).places ≤ 6

-- the form is the expression's, and no operation on the way is too large
pub record IsEvaluated (T : Task) (tree : Num) (form : Linear) : Type 0 where
  pub is_form : IsFormOf T tree form
  pub bounded : IsBounded form
  pub fine : find (is_large T) (operations tree) ≡ None

-- so far as parts of a sum or product are done
pub record IsPartial (T : Task) (operator : List Num → Num) (done : List Num) (form : Linear) : Type 0 where
  pub is_form : IsFormOf T (operator done) form
  pub bounded : IsBounded form
  pub constant : is_within weight_bound form.constant ≡ true
  pub fine : find (is_large T) (operations_from operator [] done) ≡ None

-- at the operator
abbrev pub refused_at : Role → Num → Refusal
refused_at role tree = refusal_at_word CostTooLarge role (operator tree)

-- the first of the operations that is too large
abbrev pub first_large : Task → Role → List Num → Option Refusal
first_large T role list = option_map (refused_at role) (find (is_large T) list)

-- a refusal is that of the first operation that is too large
abbrev pub IsFailure : Task → Role → List Num → MetricFail → Type 0
IsFailure T role list (Refused refusal) = first_large T role list ≡ Some refusal
IsFailure T role list NoMemory = Unit {0}

-- the form is the metric's; without a metric it is 0
pub record IsMetricForm (T : Task) (form : Linear) : Type 0 where
  pub is_form : IsForm (metric_quantity T) form
  pub bounded : IsBounded form
