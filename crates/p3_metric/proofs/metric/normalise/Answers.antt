use Rattle.std.proofs.Common.{◌≡◌, ◌∙◌, ◌<◌, ◌^◌, sym, subst, None, List, ap}
use Rattle.std.specs.Prelude.{Result, Ok, Err, IfOk, OnOk}
use Rattle.p3_base.specs.declared.refusal.Side.{Side}
use Rattle.p3_formula.specs.declared.target.Weights.{Weights}
use Rattle.p3_task.specs.Costs.{initial_cost}
use Rattle.p3_task.specs.Offences.{WellFormed}
use Rattle.p3_task.specs.Refusals.Metric.{metric_refusals}
use Rattle.p3_task.specs.Refusals.Places.{first_some}
use Rattle.p3_task.specs.declared.task.Task.{Task}
use Rattle.p3_task.specs.Names.{Name}
use Rattle.p3_task.specs.PreferenceNames.{ordered_names}
use Rattle.p3_numbers.specs.declared.task.NumberedTask.{NumberedTask}
use Rattle.p3_metric.specs.Weighed.{HasWeights, HasWeightsOf, IsWeights}
use Rattle.p3_metric.specs.declared.error.MetricFail.{MetricFail}
use Rattle.p3_metric.proofs.AcceptedLaws.{linear_where_accepted}
use Rattle.p3_metric.proofs.MentionLaws.{counts_names}
use Rattle.p3_metric.proofs.ShortLemmas.{short_starts}
use Rattle.p3_metric.proofs.WeighedLaws.{is_weights}
use Rattle.p3_metric.proofs.metric.normalise.Goals as goal

names_are : (T U : Task) (names : List Name) (r : Result Weights MetricFail) → T ≡ U → names ≡ ordered_names U → IfOk r (HasWeightsOf names T) → IfOk r (HasWeights U)
names_are T U names r same alike has = subst (λ V. IfOk r (HasWeightsOf (ordered_names U) V)) same (subst (λ list. IfOk r (HasWeightsOf list T)) alike has)

pub returns-clause-weights : goal.returns-clause-weights
returns-clause-weights c =
    names_are c.task.result.now c.args.task.now.task c.items.result.now c.weights.result c.task.ensures.task
    (c.items.ensures ∙ ap (λ (X : NumberedTask). X.numbers.preferences) c.numbered.ensures.task ∙ c.numbered.ensures.numbered.names.preferences) c.weights.ensures.weights

pub weights-requires : goal.weights-requires
weights-requires c = λ written.
    let P : Task → Type 0 = λ T. initial_cost T < 2 ^ 64 in
    subst P (sym c.task.ensures.task) (short_starts c.args.task.now.side c.args.task.now.task c.task.ensures.short (sym c.side-side.ensures ∙ written))

pub returns-clause-loss : goal.returns-clause-loss
returns-clause-loss c =
    let T = c.args.task.now.task in let side = c.args.task.now.side in
    let Q : Task → Type 0 = λ U. OnOk c.weights.result (first_some (metric_refusals c.side-side.result U) ≡ None) in
    by T c.task.ensures.well_formed c.side-side.result c.weights.result (returns-clause-weights c) (subst Q c.task.ensures.task c.weights.ensures.accepted)
  where
    by : (T : Task) → WellFormed T → (side : Side) → (r : Result Weights MetricFail) → IfOk r (HasWeights T) → OnOk r (first_some (metric_refusals side T) ≡ None) → IfOk r (IsWeights T)
    by T well side (Ok w) has none = is_weights T (linear_where_accepted side T none) (counts_names T well) w has
    by T well side (Err e) has none = tt
