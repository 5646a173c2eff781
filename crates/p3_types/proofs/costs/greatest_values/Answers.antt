use Rattle.std.proofs.Common.{◌∙◌, ap, arith}
use Rattle.std.proofs.lemmas.List.{take_all}
use Rattle.std.proofs.lemmas.List.FromFn.{fill_by_all}
use Rattle.p3_types.specs.Costs.{greatest_of}
use Rattle.p3_types.proofs.costs.greatest_values.Goals as goal

pub returns : goal.returns
returns c =
    let values = c.args.values.now in
    fill_by_all (greatest_of c.args.places values) c.loop-value.greatest.items c.args.functions 0 c.loop-value.invariant.len
    (λ k within. c.loop-value.invariant.greatest k within ∙ ap (λ all. greatest_of c.args.places all k) (take_all c.loop-value.value-index values (omega (arith, c.loop-value-test.false))))
