use Rattle.std.proofs.Common.{rules, ◌≡◌, ◌∙◌, ◌+◌, ◌<◌, ◌^◌, ℤ, pos, ◌+ℤ◌, sym, subst, arith}
use Rattle.std.proofs.lemmas.Int.{ints, to_z-of_z}
use Rattle.std.specs.Int.RustNames.{unsigned_abs}
use lib.IntN.{negsuc}
use mir.Syntax.{w128}
use mir.Val.{SFits}
use Rattle.p3_run.specs.Runs.{Ran, ground_metric, signed_by}
use Rattle.p3_run.proofs.TellLaws.{light, metric_is}
use Rattle.p3_run.proofs.running.GroundRun.metric.Goals as goal

fits : (z : ℤ) → unsigned_abs z < 2 ^ 126 → SFits w128 z
fits (pos n) small = omega (arith, ints, small)
fits (negsuc n) small = omega (arith, ints, small)

pub overflow_add-more : goal.overflow_add-more
overflow_add-more c = let h = light _ _ _ _ _ _ _ _ _ _ c.self.invariant in omega (arith, h, c.worth.ensures, c.worth-2.ensures)

pub value_of-requires-clause-base : goal.value_of-requires-clause-base
value_of-requires-clause-base c =
    let base = c.self.inside.weights.now.base in
    let small = c.self.invariant.can.can.base in
    subst (λ (z : ℤ). unsigned_abs z < 2 ^ 126) (sym (to_z-of_z w128 base (fits base small))) small

pub value_of-requires-clause-more : goal.value_of-requires-clause-more
value_of-requires-clause-more c = let h = light _ _ _ _ _ _ _ _ _ _ c.self.invariant in omega (arith, h, c.worth.ensures, c.worth-2.ensures)

pub returns : goal.returns
returns c =
    let inside = c.self.inside in
    let base = inside.weights.now.base in
    let small = c.self.invariant.can.can.base in
    let whole : SFits w128 c.value_of.result = search rules in
    to_z-of_z w128 c.value_of.result whole
    ∙ c.value_of.ensures
    ∙ (λ i. signed_by inside.weights.now.direction (to_z-of_z w128 base (fits base small) i +ℤ pos (c.worth.ensures i + c.worth-2.ensures i)))
    ∙ subst (λ (ran : Ran). signed_by inside.weights.now.direction (base +ℤ pos (inside.soft.worth + inside.prefs.worth)) ≡ ground_metric ran.task ran.weights ran.plan) c.self.view_is
    (metric_is _ _ _ _ _ _ _ _ _ _ c.self.invariant)
