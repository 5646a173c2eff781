use Rattle.std.proofs.Common.{◌∙◌, ℕ, List, ap, arith}
use Rattle.std.proofs.lemmas.List.{take_all}
use Rattle.p3_plans.specs.Layout.{plan_layout}
use Rattle.p3_plans.proofs.WrittenLemmas.{layout_is_text}
use Rattle.p3_lift.specs.Lifting.{numbered_steps}
use Rattle.p3_cli.proofs.LiftingLemmas.{lines_more}
use Rattle.p3_cli.proofs.lifting.lifted_text.Goals as goal

pub loop-number-preserved : goal.loop-number-preserved
loop-number-preserved c =
    lines_more c.args.checked.now.task c.args.numbers.now c.loop-number.number-index c.loop-number.text.items c.push_line.new.text.items c.loop-number-test.true c.loop-number.invariant c.in_ok-push_line.ensures

pub returns-clause-plan : goal.returns-clause-plan
returns-clause-plan c =
    let T = c.args.checked.now.task in
    let numbers = c.args.numbers.now in
    layout_is_text c.loop-number.text.items (numbered_steps T numbers)
    (c.loop-number.invariant ∙ ap (λ (passed : List ℕ). plan_layout (numbered_steps T passed)) (take_all c.loop-number.number-index numbers (omega arith))) c.requires.words
