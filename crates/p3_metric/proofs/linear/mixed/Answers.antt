use Rattle.std.proofs.Common.{arith, ◌∙◌, ◌^◌, sym, subst, ◌+ℤ◌, ◌*ℤ◌, to_z, of_z, FitsSigned}
use Rattle.std.proofs.lemmas.Int.{to_z-of_z, fits_signed_from_abs}
use mir.Syntax.{w128}
use Rattle.p3_metric.proofs.BoundLemmas.{product_below, mixed_sum_below, passed_product_fits}
use Rattle.p3_metric.proofs.EntryLemmas.{product_fits}
use Rattle.p3_metric.proofs.linear.mixed.Goals as goal

pub overflow_mul-result : goal.overflow_mul-result
overflow_mul-result c = passed_product_fits c.args.first c.args.factor c.ranges.first c.ranges.factor (product_below c.args.first c.args.factor (2 ^ 64) (2 ^ 20) (2 ^ 127) c.requires.first c.requires.factor (omega arith))

pub overflow_mul-result-2 : goal.overflow_mul-result-2
overflow_mul-result-2 c = passed_product_fits c.args.second c.args.other c.ranges.second c.ranges.other (product_below c.args.second c.args.other (2 ^ 64) (2 ^ 20) (2 ^ 127) c.requires.second c.requires.other (omega arith))

pub overflow_add-result : goal.overflow_add-result
overflow_add-result c =
    let one = product_fits c.args.first c.args.factor c.ranges.first c.ranges.factor (product_below c.args.first c.args.factor (2 ^ 64) (2 ^ 20) (2 ^ 127) c.requires.first c.requires.factor (omega arith)) in
    let two = product_fits c.args.second c.args.other c.ranges.second c.ranges.other (product_below c.args.second c.args.other (2 ^ 64) (2 ^ 20) (2 ^ 127) c.requires.second c.requires.other (omega arith)) in
    subst (λ z. FitsSigned w128 z) (sym (λ i. one i +ℤ two i))
    (fits_signed_from_abs w128 (c.args.first *ℤ c.args.factor +ℤ c.args.second *ℤ c.args.other) (mixed_sum_below c.args.first c.args.factor c.args.second c.args.other c.requires.first c.requires.factor c.requires.second c.requires.other))

pub returns : goal.returns
returns c =
    let one = product_fits c.args.first c.args.factor c.ranges.first c.ranges.factor (product_below c.args.first c.args.factor (2 ^ 64) (2 ^ 20) (2 ^ 127) c.requires.first c.requires.factor (omega arith)) in
    let two = product_fits c.args.second c.args.other c.ranges.second c.ranges.other (product_below c.args.second c.args.other (2 ^ 64) (2 ^ 20) (2 ^ 127) c.requires.second c.requires.other (omega arith)) in
    (λ i. to_z w128 (of_z w128 (one i +ℤ two i)))
    ∙ to_z-of_z w128 (c.args.first *ℤ c.args.factor +ℤ c.args.second *ℤ c.args.other)
    (fits_signed_from_abs w128 _ (mixed_sum_below c.args.first c.args.factor c.args.second c.args.other c.requires.first c.requires.factor c.requires.second c.requires.other))
