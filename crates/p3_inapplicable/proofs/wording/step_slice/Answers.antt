use Rattle.std.proofs.Common.{◌≡◌, ◌∙◌, arith}
use Rattle.p3_plans.specs.Laws.{all_of}
use Rattle.p3_plans.specs.Steps.{left}
use Rattle.p3_plans.specs.declared.reader.NextStep.TheVariants as next
use Rattle.p3_inapplicable.proofs.WordingLemmas.{next-at, none-next, one-next, passed-more, slice-within}
use Rattle.p3_inapplicable.proofs.wording.step_slice.Goals as goal

pub loop-passed-preserved : goal.loop-passed-preserved
loop-passed-preserved c = record {
  source = c.next-step.ensures.source ∙ c.loop-passed.invariant.source;
  steps = passed-more (all_of c.args.text.now).steps c.loop-passed._passed c.loop-passed.reader c.next-step.new.self c.next-step.result c.loop-passed.invariant.steps c.next-step.ensures.steps c.next-step.ensures.rests;
}

pub returns-in-Step-clause-given : goal.returns-in-Step-clause-given
returns-in-Step-clause-given c entry at =
    let place : c.loop-passed._passed ≡ c.args.place = omega arith in
    one-next (all_of c.args.text.now).steps c.loop-passed._passed c.args.place place c.in-Step.step entry
    (next-at (all_of c.args.text.now).steps c.loop-passed._passed c.loop-passed.reader (left c.next.new.self) (next.Step c.in-Step.step) c.loop-passed.invariant.steps c.in-Step.ensures.steps) at

pub returns-in-Step-clause-within : goal.returns-in-Step-clause-within
returns-in-Step-clause-within c = slice-within c.args.text.now c.loop-passed.reader.source c.in-Step.step.text.now c.in-Step.step.offset c.loop-passed.invariant.source c.in-Step.ensures.slice.slice

pub returns-in-End-clause-given : goal.returns-in-End-clause-given
returns-in-End-clause-given c entry at =
    let place : c.loop-passed._passed ≡ c.args.place = omega arith in
    absurd (none-next (all_of c.args.text.now).steps c.loop-passed._passed c.args.place place entry
    (next-at (all_of c.args.text.now).steps c.loop-passed._passed c.loop-passed.reader (left c.next.new.self) next.End c.loop-passed.invariant.steps c.in-End.ensures.steps) at)

pub returns-in-Bad-clause-given : goal.returns-in-Bad-clause-given
returns-in-Bad-clause-given c entry at =
    let place : c.loop-passed._passed ≡ c.args.place = omega arith in
    absurd (none-next (all_of c.args.text.now).steps c.loop-passed._passed c.args.place place entry
    (next-at (all_of c.args.text.now).steps c.loop-passed._passed c.loop-passed.reader (left c.next.new.self) (next.Bad c.in-Bad.field-0) c.loop-passed.invariant.steps c.in-Bad.ensures.steps) at)
