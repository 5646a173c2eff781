use Rattle.std.proofs.Common.{◌∙◌, sym, ap, rules}
use Rattle.std.proofs.lemmas.Int.{to_z-of_z}
use mir.Syntax.{w128}
use mir.Val.{SFits}
use Rattle.p3_task.specs.Costs.{cost_places}
use Rattle.p3_task.specs.Metrics.{metric_places}
use Rattle.p3_formula.specs.declared.target.Weights.{Weights}
use Rattle.p3_types.specs.declared.checked.Checked.{Checked}
use Rattle.p3_eval.proofs.RefusalLaws.{no_metric, well_formed_from}
use Rattle.p3_shares.proofs.RunLemmas.{value_is}
use Rattle.p3_shares.proofs.metric.shares_by.Goals as goal

pub metric_places-requires : goal.metric_places-requires
metric_places-requires c = let checked = c.checked-checked.result.now in no_metric checked.side checked.task (well_formed_from checked.task checked.well_formed) c.checked-checked.ensures.accepted

pub returns : goal.returns
returns c =
    let grounded = c.args.grounded.now in
    let ran = c.args.run.now in
    let can = c.requires.can in
    let base = c.weights.result.now.base in
    let base_fits : SFits w128 base = search rules in
    let loss_fits : SFits w128 c.loss_of.result = search rules in
    let value_fits : SFits w128 c.metric.result = search rules in
    let places = ap (λ (checked : Checked). metric_places checked.task) c.checked-checked.ensures.checked in
    record {
      places = c.metric_places.ensures.places ∙ places;
      places_of_costs = c.cost_places.ensures.places ∙ ap (λ (checked : Checked). cost_places checked.task) c.checked-checked.ensures.checked;
      its_base = record {
        places = c.in_metric.ensures.places ∙ places;
        units = c.in_metric.ensures.units ∙ to_z-of_z w128 base base_fits ∙ ap (λ (w : Weights). w.base) (c.weights.ensures ∙ sym can.done.done.weights);
      };
      names = c.in_ok-names.ensures;
      its_cost = c.cost_share.ensures;
      its_loss = record { places = c.in_metric-2.ensures.places ∙ places; units = c.in_metric-2.ensures.units ∙ to_z-of_z w128 c.loss_of.result loss_fits ∙ c.loss_of.ensures };
      its_value = record {
        places = c.in_metric-3.ensures.places ∙ places;
        units = c.in_metric-3.ensures.units ∙ to_z-of_z w128 c.metric.result value_fits ∙ value_is grounded ran can c.metric.result c.metric.ensures;
      };
    }
