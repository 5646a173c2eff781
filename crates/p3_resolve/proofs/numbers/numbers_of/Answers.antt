use Rattle.std.proofs.Common.{◌∙◌, ap, Some}
use Rattle.p3_task.specs.Types.{names_of}
use Rattle.p3_resolve.proofs.NumberLemmas.{numbers-more}
use Rattle.p3_resolve.proofs.numbers.numbers_of.Goals as goal

pub loop-parameter-preserved : goal.loop-parameter-preserved
loop-parameter-preserved c = record {
  same = c.in_ok-number.ensures.same;
  kept = λ k names at. c.in_ok-number.ensures.kept k names (c.loop-parameter.invariant.kept k names at);
  numbers = numbers-more _ _ _ _ c.args.parameters.now c.loop-parameter.parameter-index c.parameter-item.result c.in_ok-number.number
      c.loop-parameter-test.true c.parameter-item.is c.in_ok-number.ensures.kept c.loop-parameter.invariant.numbers (c.in_ok-number.ensures.number ∙ ap (λ types. Some (names_of types)) c.items.ensures) c.in_ok-push.ensures.items;
}
