use Rattle.std.proofs.Common.{arith, ◌∙◌, ◌^◌, ap, sym, to_z}
use Rattle.std.proofs.lemmas.Int.{to_z-of_z}
use Rattle.std.proofs.lemmas.Result.{IfOk-weaker}
use mir.Syntax.{w128}
use Rattle.p3_metric.specs.Entries.{number_at, mixed}
use Rattle.p3_metric.proofs.EntryLemmas.{mixed_once, mixed_twice, mixed_below, times_below, judged_where}
use Rattle.p3_metric.proofs.entries.merged.Goals as goal

pub returns-then-factor-eq1 : goal.returns-then-factor-eq1
returns-then-factor-eq1 c = record {
  numbers = λ name. c.in_ok-within.ensures.sums name ∙ mixed_once (number_at c.args.first name) c.args.factor (number_at c.args.second name) c.args.other _ (sym (to_z-of_z w128 c.args.factor c.ranges.factor) ∙ ap (to_z w128) c.if-factor-eq1.true) (to_z-of_z w128 c.args.other c.ranges.other);
  within = λ w. c.in_ok-within.ensures.within w c.requires.within;
  large = c.in_ok-within.ensures.large;
}

pub pour-requires-2-clause-part : goal.pour-requires-2-clause-part
pour-requires-2-clause-part c = λ name. times_below (number_at c.args.second name) c.args.other _ (2 ^ 124) (2 ^ 126) (to_z-of_z w128 c.args.other c.ranges.other) (omega arith) (c.requires.second name)

pub scaled-requires-2 : goal.scaled-requires-2
scaled-requires-2 c = record {
  fits = λ name. mixed_below (number_at c.args.first name) c.args.factor (number_at c.args.second name) c.args.other _ _ _ _
      (to_z-of_z w128 c.args.factor c.ranges.factor) (to_z-of_z w128 c.args.other c.ranges.other) (c.in_ok-entries.ensures.numbers name) (c.in_ok-pour.ensures.sums name) (c.requires.first name) (c.requires.second name);
}

pub returns : goal.returns
returns c =
    IfOk-weaker c.scaled-2.result _ _
    (λ judged is. judged_where _ (mixed (number_at c.args.first) c.args.factor (number_at c.args.second) c.args.other) judged
    (λ name. mixed_twice (number_at c.args.first name) c.args.factor (number_at c.args.second name) c.args.other _ _ _ _
    (to_z-of_z w128 c.args.factor c.ranges.factor) (to_z-of_z w128 c.args.other c.ranges.other) (c.in_ok-entries.ensures.numbers name) (c.in_ok-pour.ensures.sums name)) is)
    c.scaled-2.ensures
