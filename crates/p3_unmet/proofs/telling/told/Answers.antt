use Rattle.std.proofs.Common.{◌≡◌, ◌∙◌, ap, map}
use Rattle.std.specs.Prelude.{flat_map}
use Rattle.std.proofs.lemmas.Result.{IfOk-weaker}
use Rattle.p3_scenes.specs.Questions.{answer_to}
use Rattle.p3_unmet.specs.Sketches.{decisions_of, headings_with, seen_draft}
use Rattle.p3_unmet.proofs.SketchLaws.{headings-told}
use Rattle.p3_unmet.proofs.telling.told.Goals as goal

pub returns : goal.returns
returns c =
    let X = c.args.task.now in
    let steps = c.args.steps.now in
    let sketches = map seen_draft c.args.drafts.now in
    let found : c.of-found.result ≡ flat_map (decisions_of X steps) sketches = c.of-found.ensures ∙ c.in_ok-found.ensures ∙ ap (map (answer_to X steps)) c.items.ensures ∙ c.in_ok-questions.ensures X steps in
    IfOk-weaker c.headings.result _ _ (λ headings is. is ∙ ap (headings_with sketches) found ∙ headings-told X steps sketches) c.headings.ensures
