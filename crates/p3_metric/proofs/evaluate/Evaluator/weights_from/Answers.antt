use Rattle.std.proofs.Common.{rules, arith, ◌≡◌, ◌∙◌, ◌<◌, ◌^◌, ap, sym, ℕ, List, map, length, pos, ◌+ℤ◌, ◌*ℤ◌}
use Rattle.std.specs.Prelude.{slice_index_or}
use Rattle.std.specs.Int.RustNames.{unsigned_abs}
use Rattle.std.proofs.lemmas.Int.{to_z-of_z}
use mir.Syntax.{w128}
use mir.Val.{SFits}
use Rattle.p3_task.specs.Costs.{initial_cost}
use Rattle.p3_task.specs.Metrics.{signed}
use Rattle.p3_task.specs.Names.{Name}
use Rattle.p3_metric.specs.Entries.{number_at}
use Rattle.p3_limits.specs.Cuts.{cut}
use Rattle.p3_metric.proofs.WeightLaws.{base_is, cost_weighs, count_weighs, length_mapped, mapped_at}
use Rattle.p3_metric.proofs.evaluate.Evaluator.weights_from.Goals as goal

whole_units : (units : ℕ) → units < 2 ^ 64 → cut units ≡ units
unfolding cut
whole_units units h = omega (arith, h)

pub returns : goal.returns
returns c =
    let T = c.args.self.now.task.now in let side = c.args.self.now.side in let form = c.args.form in
    let is = c.requires.form.is_form in
    let weight_of = λ (name : Name). unsigned_abs (number_at form.counts name) in
    let weights : c.in_ok-by_name.by_name ≡ map weight_of c.args.names.now = c.in_ok-by_name.ensures in
    let constant : SFits w128 form.constant = search rules in
    let cost : SFits w128 form.cost = search rules in
    let start : SFits w128 c.at_start.result = search rules in
    let base : SFits w128 c.loss_of-base.result = search rules in
    let initial = c.args.self.now.started ∙ whole_units (initial_cost T) c.requires.start in
    record {
      count = ap length weights ∙ length_mapped weight_of c.args.names.now;
      by_name = λ place name there.
          ap (λ (l : List ℕ). pos (slice_index_or l place 0)) weights ∙ ap pos (mapped_at weight_of c.args.names.now place name there)
          ∙ count_weighs side T c.requires.linear form is c.requires.negative name;
      total_cost = ap pos (c.magnitude-total_cost.ensures ∙ ap unsigned_abs (to_z-of_z w128 form.cost cost)) ∙ cost_weighs side T c.requires.linear form is c.requires.negative;
      base = to_z-of_z w128 c.loss_of-base.result base ∙ c.loss_of-base.ensures
          ∙ (λ i. signed (c.direction-direction.ensures i) (to_z-of_z w128 c.at_start.result start i))
          ∙ ap (signed _) (c.at_start.ensures.value ∙ (λ i. to_z-of_z w128 form.constant constant i +ℤ to_z-of_z w128 form.cost cost i *ℤ pos (initial i)))
          ∙ sym (base_is T c.requires.linear form is);
      direction = c.direction-direction.ensures;
    }
