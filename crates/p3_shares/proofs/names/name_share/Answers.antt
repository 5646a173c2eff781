use Rattle.std.proofs.Common.{◌≡◌, ◌*◌, refl, ap, arith}
use Rattle.std.specs.Prelude.{slice_index_or}
use Rattle.p3_formula.specs.GroundPlans.{ground_violated}
use Rattle.p3_shares.proofs.BoundLemmas.{light_name}
use Rattle.p3_shares.proofs.RunLemmas.{can_run, count_is}
use Rattle.p3_shares.proofs.names.name_share.Goals as goal

pub invariant_of-result : goal.invariant_of-result
invariant_of-result c =
    let grounded = c.args.grounded.now in
    let ran = c.args.run.now in
    let can = c.requires.can in
    let number = c.args.number in
    let weight = ap (λ weights. slice_index_or weights number 0) c.requires.weights in
    let count = count_is grounded ran can number c.violations.result c.requires.named c.violations.ensures in
    let product : slice_index_or c.args.by_name.now number 0 * c.violations.result ≡ slice_index_or ran.weights.by_name number 0 * ground_violated ran.task ran.plan number = λ i. weight i * count i in
    let light = light_name ran.task ran.weights (can_run grounded ran can) can.small ran.plan can.few number c.requires.named in
    record { small = omega (arith, product, light) }

pub returns : goal.returns
returns c = record {
  name = refl;
  added = ap (λ weights. slice_index_or weights c.args.number 0) c.requires.weights;
  count = count_is c.args.grounded.now c.args.run.now c.requires.can c.args.number c.violations.result c.requires.named c.violations.ensures;
}
