use Rattle.std.proofs.Common.{◌∙◌, ap, true}
use Rattle.p3_formula.specs.Forms.{State}
use Rattle.p3_formula.specs.Next.{changed_all}
use Rattle.p3_formula.proofs.StepLaws.{made_one_by_one}
use Rattle.p3_embed.proofs.walking.change_state.Goals as goal

pub returns : goal.returns
returns c =
    let before = c.args.state.now in
    let changes = c.args.changes.now in
    c.make_all-2.ensures before (c.as_slice-2.ensures.value ∙ c.in_ok-holding.ensures)
    ∙ ap (λ (bits : State). changed_all true before bits changes) (c.make_all.ensures before (c.as_slice.ensures.value ∙ c.in_ok-holding.ensures))
    ∙ made_one_by_one before changes
