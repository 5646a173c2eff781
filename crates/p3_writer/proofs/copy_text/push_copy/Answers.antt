use Rattle.std.proofs.Common.{◌∙◌, ◌++◌, ◌∷◌, ap}
use Rattle.std.proofs.lemmas.Result.{on_ok_weaker}
use Rattle.p3_writer.specs.AtomTexts.{action_end}
use Rattle.p3_writer.specs.CopyText.{copied_action}
use Rattle.p3_writer.specs.Layout.{form_text}
use Rattle.p3_writer.proofs.LayoutLemmas.{action_laid}
use Rattle.p3_writer.proofs.copy_text.push_copy.Goals as goal

pub returns-clause-layout : goal.returns-clause-layout
returns-clause-layout c =
    let names = c.args.atoms.now in
    let action = copied_action c.args.copy.now in
    on_ok_weaker c.push_effect.result
    (λ is. is
    ∙ ap (λ text. text ++ action_end names action.effects action.cost)
    (c.in_ok-push_behind_atom.ensures ∙ ap (λ text. text ++ (32 ∷ form_text names action.pre)) c.in_ok-push_copy_head.ensures)
    ∙ action_laid names action c.args.out.now.items)
    c.push_effect.ensures.layout
