use Rattle.std.proofs.Common.{◌≡◌, ◌∙◌, ◌-◌, ◌*◌, sym, ap, arith, rules}
use Rattle.std.proofs.lemmas.Int.{to_z-of_z}
use Rattle.std.specs.Int.RustNames.{unsigned_abs}
use mir.Syntax.{w128}
use mir.Val.{SFits}
use Rattle.p3_formula.specs.GroundPlans.{ground_cost}
use Rattle.p3_formula.specs.declared.target.Weights.{Weights}
use Rattle.p3_formula.specs.declared.task.GroundTask.{GroundTask}
use Rattle.p3_shares.proofs.BoundLemmas.{cheap, light_cost}
use Rattle.p3_shares.proofs.RunLemmas.{can_run, total_by, total_is}
use Rattle.p3_shares.proofs.cost.cost_share.Goals as goal

pub overflow_sub-result : goal.overflow_sub-result
overflow_sub-result c =
    let grounded = c.args.grounded.now in
    let ran = c.args.run.now in
    let can = c.requires in
    let fits : SFits w128 c.total_cost.result = search rules in
    let start = c.from-start.ensures ∙ ap (λ (G : GroundTask). G.initial_cost) (c.ground_task.ensures ∙ sym can.done.done.task) in
    let total = c.unsigned_abs.ensures.value ∙ ap unsigned_abs (to_z-of_z w128 c.total_cost.result fits ∙ total_is grounded ran can c.total_cost.result c.total_cost.ensures) ∙ total_by grounded ran can in
    omega (arith, start, total)

pub invariant_of-result : goal.invariant_of-result
invariant_of-result c =
    let grounded = c.args.grounded.now in
    let ran = c.args.run.now in
    let can = c.requires in
    let fits : SFits w128 c.total_cost.result = search rules in
    let start = c.from-start.ensures ∙ ap (λ (G : GroundTask). G.initial_cost) (c.ground_task.ensures ∙ sym can.done.done.task) in
    let total = c.unsigned_abs.ensures.value ∙ ap unsigned_abs (to_z-of_z w128 c.total_cost.result fits ∙ total_is grounded ran can c.total_cost.result c.total_cost.ensures) ∙ total_by grounded ran can in
    let weight = ap (λ (w : Weights). w.total_cost) (c.weights.ensures ∙ sym can.done.done.weights) in
    let growth : c.unsigned_abs.result - c.from-start.result ≡ ground_cost ran.task ran.plan = omega (arith, start, total) in
    let product : c.weights.result.now.total_cost * (c.unsigned_abs.result - c.from-start.result) ≡ ran.weights.total_cost * ground_cost ran.task ran.plan = λ i. weight i * growth i in
    let few = cheap ran.task ran.weights (can_run grounded ran can) can.small ran.plan can.few in
    let light = light_cost ran.task ran.weights (can_run grounded ran can) can.small ran.plan can.few in
    record { grown = omega (arith, growth, few); small = omega (arith, product, light) }

pub returns : goal.returns
returns c =
    let grounded = c.args.grounded.now in
    let ran = c.args.run.now in
    let can = c.requires in
    let fits : SFits w128 c.total_cost.result = search rules in
    let start = c.from-start.ensures ∙ ap (λ (G : GroundTask). G.initial_cost) (c.ground_task.ensures ∙ sym can.done.done.task) in
    let total = c.unsigned_abs.ensures.value ∙ ap unsigned_abs (to_z-of_z w128 c.total_cost.result fits ∙ total_is grounded ran can c.total_cost.result c.total_cost.ensures) ∙ total_by grounded ran can in
    record { added = ap (λ (w : Weights). w.total_cost) (c.weights.ensures ∙ sym can.done.done.weights); grown = omega (arith, start, total) }
