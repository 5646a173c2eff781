-- The decimal places of a metric of which nothing is refused.
use Rattle.std.proofs.Common.{◌≡◌, ◌∙◌, ◌≤◌, refl, sym, ap, true, false, cond, nat_lt, List, [], ◌∷◌, Option, Some, None, arith}
use Rattle.std.specs.Prelude.{Bool, option_map}
use Rattle.std.specs.Option.{option_and_then}
use Rattle.std.proofs.lemmas.Bool.{ltb-false}
use Rattle.p3_base.specs.declared.refusal.Refusal.{Refusal}
use Rattle.p3_base.specs.declared.refusal.Side.{Side}
use Rattle.p3_task.specs.Metrics.{metric_places, no_counts, quantity_by}
use Rattle.p3_task.specs.Refusals.Metric.{metric_body, metric_refusals, nonlinear_at, too_many_places_at}
use Rattle.p3_task.specs.Refusals.Places.{first_some}
use Rattle.p3_task.specs.declared.metric.Metric.{Metric}
use Rattle.p3_task.specs.declared.task.Task.{Task}
use Rattle.p3_metric.specs.Cut.{cut, cut_places}

-- without a metric, and with one
pub no_places : (T : Task) → T.problem.metric ≡ None → metric_places T ≡ 0
unfolding metric_places
no_places T none = ap (λ (found : Option Metric). (quantity_by T no_counts 0 found).places) none

pub places_of_body : (T : Task) (metric : Metric) → T.problem.metric ≡ Some metric → cut_places T metric.body ≡ cut (metric_places T)
unfolding metric_places cut_places
places_of_body T metric is = ap (λ (found : Option Metric). cut (quantity_by T no_counts 0 found).places) (sym is)

not_more : (many : Bool) (found : Refusal) → cond many (Some found) None ≡ None → many ≡ false
not_more true found e = absurd (cc)
not_more false found e = refl

second_none : {A : Type 0} (first second : Option A) (others : List (Option A)) → first_some (first ∷ second ∷ others) ≡ None → second ≡ None
second_none None None others e = refl
second_none None (Some x) others e = absurd (cc)
second_none (Some x) second others e = absurd (cc)

abbrev behind_two : {A : Type 0} → List A → List A
behind_two (first ∷ second ∷ others) = others
behind_two _ = []

-- they are few where nothing is refused
pub few_places : (side : Side) (T : Task) → first_some (metric_refusals side T) ≡ None → metric_places T ≤ 6
few_places side T none = by T.problem.metric refl
  where
    later : option_and_then (too_many_places_at side T) (metric_body T) ≡ None
    later = second_none (option_and_then (nonlinear_at side) (metric_body T)) (option_and_then (too_many_places_at side T) (metric_body T)) (behind_two (metric_refusals side T)) none

    by : (found : Option Metric) → T.problem.metric ≡ found → metric_places T ≤ 6
    by None is = let e = no_places T is in omega (arith, e)
    by (Some metric) is =
        ltb-false 6 (metric_places T)
        (not_more (nat_lt 6 (metric_places T)) _ (sym (ap (λ (found : Option Metric). option_and_then (too_many_places_at side T) (option_map (λ m. m.body) found)) is) ∙ later))
