use Rattle.std.proofs.Common.{◌≡◌, ◌∙◌, ℕ, List, ◌++◌, subst}
use Rattle.std.specs.Prelude.{OnOk}
use Rattle.p3_plans.specs.Layout.{line_layout}
use Rattle.p3_cli.proofs.LiftingLemmas.{one_line}
use Rattle.p3_cli.proofs.lifting.push_line.Goals as goal

pub returns : goal.returns
returns c =
    let pushed = c.push_step-pushed in
    subst (λ (line : List ℕ). OnOk pushed.result (pushed.new.out.items ≡ c.args.text.now.items ++ line))
    ((λ i. line_layout (c.bytes.ensures.bytes i) (c.items.ensures i)) ∙ one_line c.args.checked.now.task c.args.number c.in_ok-step.step c.in_ok-step.ensures) pushed.ensures
