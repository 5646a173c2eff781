use Rattle.std.proofs.Common.{◌≡◌, ◌∙◌, List, map, sym, subst}
use Rattle.std.proofs.lemmas.Result.{IfOk-weaker}
use Rattle.p3_scenes.specs.Seen.{seen, seen_soft}
use Rattle.p3_accounts.specs.declared.heading.Heading.{Heading}
use Rattle.p3_unmet.specs.Sketches.{heading_of, seen_draft}
use Rattle.p3_unmet.specs.Sources.{texts}
use Rattle.p3_unmet.specs.Stages.{AreSketched, IsStage, Stage, goal_sketches, seen_stage}
use Rattle.p3_unmet.specs.Unmet.{AreUnmet}
use Rattle.p3_unmet.proofs.UnmetLaws.{unmet-told}
use Rattle.p3_unmet.proofs.unmet.unmet_headings.Goals as goal

pub returns : goal.returns
returns c =
    let C = c.args.checked.now in
    let steps = c.args.steps.now in
    let reasons = c.args.reasons.now in
    let made = c.in_ok-stage.stage in
    let are = c.in_ok-stage.ensures in
    let sketches = map seen_draft c.in_ok-drafts.drafts in
    let stage : Stage = record { task = C.task; numbered = C.numbered; texts = texts c.args.sources.now; steps = steps; hard = map seen made.hard; soft = map seen_soft made.soft } in
    let same : seen_stage made ≡ stage = λ i. record { task = (are.task i).task; numbered = (are.task i).numbered; texts = are.texts i; steps = are.steps i; hard = map seen made.hard; soft = map seen_soft made.soft } in
    IfOk-weaker c.told.result _ _ (λ headings is plan placed all holds.
    subst (λ (list : List Heading). AreUnmet C.task C.numbered.numbers (texts c.args.sources.now) plan list)
    (sym (is ∙ (λ i. map (heading_of (c.numbered.ensures.task i) steps) (map seen_draft (c.items.ensures i)))))
    (unmet-told stage (subst IsStage same are.stage) plan placed reasons c.args.holds sketches all holds
    (subst (λ (one : Stage). AreSketched one (goal_sketches one c.args.holds) reasons sketches) same c.in_ok-drafts.ensures)))
    c.told.ensures
