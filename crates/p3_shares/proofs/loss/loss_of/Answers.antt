use Rattle.std.proofs.Common.{◌∙◌, pos, ◌-ℤ◌, FitsSigned, sym, ap, subst, rules}
use Rattle.std.proofs.lemmas.Int.{fits_signed_from_abs, to_z-of_z}
use mir.Syntax.{w128}
use mir.Val.{SFits}
use Rattle.p3_base.specs.declared.refusal.Direction.TheVariants.{Minimize, Maximize}
use Rattle.p3_shares.specs.Sharing.{loss_by}
use Rattle.p3_shares.proofs.RunLemmas.{small_loss, turned, value_by}
use Rattle.p3_shares.proofs.loss.loss_of.Goals as goal

pub overflow_sub-result : goal.overflow_sub-result
overflow_sub-result c =
    let grounded = c.args.grounded.now in
    let ran = c.args.run.now in
    let value = c.metric-value.result in
    let fits : SFits w128 value = search rules in
    let loss = ap (λ z. pos 0 -ℤ z) (to_z-of_z w128 value fits) ∙ turned grounded ran c.requires value (value_by grounded ran c.requires value c.metric-value.ensures c.weights.result.now c.weights.ensures Maximize c.in-Maximize.is) in
    subst (FitsSigned w128) (sym loss) (fits_signed_from_abs w128 (loss_by ran) (small_loss grounded ran c.requires))

pub returns-in-Minimize : goal.returns-in-Minimize
returns-in-Minimize c =
    let value = c.metric-value.result in
    let fits : SFits w128 value = search rules in
    to_z-of_z w128 value fits ∙ value_by c.args.grounded.now c.args.run.now c.requires value c.metric-value.ensures c.weights.result.now c.weights.ensures Minimize c.in-Minimize.is

pub returns-in-Maximize : goal.returns-in-Maximize
returns-in-Maximize c =
    let grounded = c.args.grounded.now in
    let ran = c.args.run.now in
    let value = c.metric-value.result in
    let fits : SFits w128 value = search rules in
    let loss = ap (λ z. pos 0 -ℤ z) (to_z-of_z w128 value fits) ∙ turned grounded ran c.requires value (value_by grounded ran c.requires value c.metric-value.ensures c.weights.result.now c.weights.ensures Maximize c.in-Maximize.is) in
    to_z-of_z w128 _ (subst (FitsSigned w128) (sym loss) (fits_signed_from_abs w128 (loss_by ran) (small_loss grounded ran c.requires))) ∙ loss
