-- Of a task for which nothing is refused the metric is linear.
use Rattle.std.proofs.Common.{◌≡◌, ◌∙◌, refl, sym, ap, List, [], ◌∷◌, Option, Some, None}
use Rattle.std.specs.Prelude.{ℕ, option_map, slice_get}
use Rattle.std.specs.Option.{option_and_then}
use Rattle.p3_task.specs.declared.metric.Metric.{Metric}
use Rattle.p3_task.specs.declared.task.Task.{Task}
use Rattle.p3_base.specs.declared.refusal.Side.{Side}
use Rattle.p3_task.specs.Refusals.Places.{first_some}
use Rattle.p3_task.specs.Refusals.Metric.{nonlinear, nonlinear_at, metric_body, metric_refusals}
use Rattle.p3_metric.specs.Weighed.{IsLinearMetric}

first_none : {A : Type 0} (o : Option A) (rest : List (Option A)) → first_some (o ∷ rest) ≡ None → o ≡ None
first_none None rest e = refl
first_none (Some x) rest e = absurd (cc)

pub no_product : {A : Type 0} (f : ℕ → A) (found : List ℕ) → option_map f (slice_get found 0) ≡ None → found ≡ []
no_product f [] e = refl
no_product f (at ∷ found) e = absurd (cc)

abbrev rest_of : {A : Type 0} → List A → List A
rest_of [] = []
rest_of (x ∷ xs) = xs

pub linear_where_accepted : (side : Side) (T : Task) → first_some (metric_refusals side T) ≡ None → IsLinearMetric T
linear_where_accepted side T none metric e =
    no_product _ (nonlinear metric.body) (sym (ap (λ (o : Option Metric). option_and_then (nonlinear_at side) (option_map (λ m. m.body) o)) e) ∙ first_none (option_and_then (nonlinear_at side) (metric_body T)) (rest_of (metric_refusals side T)) none)
