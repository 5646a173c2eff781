-- What is said of a task's metric, by its expression.
use Rattle.std.proofs.Common.{◌≡◌, ◌∙◌, ℕ, ◌≤◌, refl, sym, ap, Bool, true, false, arith, Option, Some, None}
use Rattle.std.specs.Prelude.{nat_lt, option_map, if◌then◌else◌}
use Rattle.std.specs.Option.{option_and_then}
use Rattle.std.proofs.lemmas.Bool.{ltb-true, ltb-false}
use Rattle.p3_base.specs.declared.refusal.Role.{Role}
use Rattle.p3_base.specs.declared.refusal.Side.{Side}
use Rattle.p3_task.specs.Names.{Name}
use Rattle.p3_task.specs.Metrics.{no_counts, metric_places, metric_quantity, quantity, quantity_by}
use Rattle.p3_task.specs.Refusals.Metric.{nonlinear, nonlinear_at, too_many_places_at}
use Rattle.p3_task.specs.Sides.{InProblem, role_of}
use Rattle.p3_task.specs.declared.metric.Metric.{Metric}
use Rattle.p3_task.specs.declared.task.Task.{Task}
use Rattle.p3_metric.specs.Cut.{cut, cut_places}
use Rattle.p3_metric.specs.Evaluation.{IsFit, refused_at}
use Rattle.p3_metric.specs.Refused.{nonlinear_of, too_many_places_of}
use Rattle.p3_metric.proofs.AcceptedLaws.{no_product}

-- ---- the expression

cut_test : (p : ℕ) → nat_lt 6 (cut p) ≡ nat_lt 6 p
cut_test p = by (nat_lt 6 (cut p)) (nat_lt 6 p) refl refl
  where
    by : (s t : Bool) → nat_lt 6 (cut p) ≡ s → nat_lt 6 p ≡ t → s ≡ t
    by true true a b = refl
    by false false a b = refl
    by true false a b = absurd (let h = ltb-true 6 (cut p) a in let w = ltb-false 6 p b in omega (arith, h, w))
    by false true a b = absurd (let h = ltb-false 6 (cut p) a in let w = ltb-true 6 p b in omega (arith, h, w))

module _ (side : Side) (T : Task) (metric : Metric) (is : T.problem.metric ≡ Some metric) where
  pub metric_is : (c : Name → ℕ) (u : ℕ) → metric_quantity T c u ≡ quantity T c u metric.body
  metric_is c u = ap (quantity_by T c u) is

  places_are : metric_places T ≡ (quantity T no_counts 0 metric.body).places
  unfolding metric_places
  places_are = λ i. (metric_is no_counts 0 i).places

  nonlinear_is : nonlinear_of side T ≡ nonlinear_at side metric.body
  nonlinear_is = ap (λ (o : Option Metric). option_and_then (nonlinear_at side) (option_map (λ m. m.body) o)) is

  many_is : too_many_places_of side T ≡ too_many_places_at side T metric.body
  many_is = ap (λ (o : Option Metric). option_and_then (too_many_places_at side T) (option_map (λ m. m.body) o)) is

  pub many_places_are : (role : Role) → role ≡ role_of side InProblem → (if nat_lt 6 (cut_places T metric.body) then Some (refused_at role metric.body) else None) ≡ too_many_places_of side T
  unfolding cut_places
  many_places_are role same =
      (λ i. if (cut_test (quantity T no_counts 0 metric.body).places ∙ ap (nat_lt 6) (sym places_are)) i then Some (refused_at (same i) metric.body) else None) ∙ sym many_is

  few_places : too_many_places_at side T metric.body ≡ None → metric_places T ≤ 6
  few_places none = by (nat_lt 6 (metric_places T)) refl none
    where
      by : (t : Bool) → nat_lt 6 (metric_places T) ≡ t → (if t then Some (refused_at (role_of side InProblem) metric.body) else None) ≡ None → metric_places T ≤ 6
      by true e wrong = absurd (cc)
      by false e none = let h = ltb-false 6 (metric_places T) e in omega (arith, h)

  pub fit_metric : nonlinear_of side T ≡ None → too_many_places_of side T ≡ None → IsFit T metric.body
  fit_metric linear places = record {
    linear = no_product _ (nonlinear metric.body) (sym nonlinear_is ∙ linear);
    places = (let e = places_are in let h = few_places (sym many_is ∙ places) in omega (arith, e, h));
  }
