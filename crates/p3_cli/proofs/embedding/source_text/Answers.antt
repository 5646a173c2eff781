use Rattle.std.proofs.Common.{◌∙◌, ℕ, List, ap, arith}
use Rattle.std.proofs.lemmas.List.{take_all}
use Rattle.p3_embed.specs.Plans.{steps_at}
use Rattle.p3_plans.specs.Layout.{plan_layout}
use Rattle.p3_plans.proofs.WrittenLemmas.{layout_is_text}
use Rattle.p3_cli.proofs.embedding.source_text.Goals as goal

pub returns-clause-plan : goal.returns-clause-plan
returns-clause-plan c =
    let X = c.args.target.now in
    let places = c.args.places.now in
    layout_is_text c.loop-place.text.items (steps_at X places)
    (c.loop-place.invariant ∙ ap (λ (passed : List ℕ). plan_layout (steps_at X passed)) (take_all c.loop-place.place-index places (omega arith))) c.requires.named
