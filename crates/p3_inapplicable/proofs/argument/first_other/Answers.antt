use Rattle.std.proofs.Common.{◌∙◌, true, sym, ap, refl, arith, get_or}
use Rattle.p3_task.specs.Names.{has_name}
use Rattle.p3_numbers.specs.Slots.{object_names}
use Rattle.p3_inapplicable.proofs.ArgumentLemmas.{one-more}
use Rattle.p3_inapplicable.proofs.argument.first_other.Goals as goal

pub loop-place-preserved : goal.loop-place-preserved
loop-place-preserved c =
    let N = c.args.numbers.now in
    let k = c.loop-place.place in
    let fits = sym (ap (λ objects. has_name (object_names N objects) c.index-names-place.result) c.objects_of-objects.ensures) ∙ sym c.has_object.ensures in
    sym (one-more N c.args.parameters.now c.args.ranges.now c.args.names.now k c.index-parameters-place.result (get_or c.args.ranges.now k 0) c.index-names-place.result
    (record { parameter_within = c.loop-place-test.true; range_within = omega arith; arg_within = omega arith; parameter_is = c.index-parameters-place.is; range_is = refl; arg_is = c.index-names-place.is }) true (fits ∙ c.if-not-has_object.false))
    ∙ c.loop-place.invariant
