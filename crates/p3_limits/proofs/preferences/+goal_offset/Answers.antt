use Rattle.std.proofs.Common.{◌≡◌, ◌∙◌, ◌<◌, ◌^◌, Some, None, sym, ap, arith}
use Rattle.std.specs.Prelude.{slice_get}
use Rattle.p3_limits.specs.Cuts.{cut_choices}
use Rattle.p3_limits.specs.Preferences.{goal_offsets, goal_count}
use Rattle.p3_limits.proofs.SizeFindLemmas.{behind-least, goal-here, goal-behind, goal-each}
use Rattle.p3_limits.proofs.preferences.+goal_offset.Goals as goal

pub goal_offset-returns-in-Some : goal.goal_offset-returns-in-Some
goal_offset-returns-in-Some t c =
    let N = c.args.numbers.now in
    c.goal_offset.ensures ∙ ap (λ body. slice_get (goal_offsets N body) c.in-Some.inner) c.get-in-Some.ensures
    ∙ sym (goal-each N c.args.goal.now c.in-Each.ranges c.in-Each.body c.choice_count-choices.result c.goal_count-count.result c.args.place (Some c.in-Some.inner) c.in-Each.is
    (c.choice_count-choices.ensures ∙ ap (cut_choices N) c.items-in-Each.ensures) (c.goal_count-count.ensures ∙ ap (goal_count N) c.get.ensures) c.ranges.place.fits
    (sym c.in-Some.is ∙ c.place_within.ensures))

pub goal_offset-returns-in-None : goal.goal_offset-returns-in-None
goal_offset-returns-in-None t c =
    let N = c.args.numbers.now in
    sym (goal-each N c.args.goal.now c.in-Each.ranges c.in-Each.body c.choice_count-choices.result c.goal_count-count.result c.args.place None c.in-Each.is
    (c.choice_count-choices.ensures ∙ ap (cut_choices N) c.items-in-Each.ensures) (c.goal_count-count.ensures ∙ ap (goal_count N) c.get.ensures) c.ranges.place.fits
    (sym c.in-None.is ∙ c.place_within.ensures))

pub goals_offset-returns-in-None : goal.goals_offset-returns-in-None
goals_offset-returns-in-None t c =
    let fits = c.ranges.place.fits in
    let low : c.loop-part.left < 2 ^ 32 = omega (arith, c.loop-part.invariant.1) in
    c.goal_offset.ensures
    ∙ sym (goal-here c.args.numbers.now c.args.parts.now c.loop-part.part-index c.part-item.result c.loop-part.left c.goal_count.result c.loop-part-test.true c.part-item.is low
    c.goal_count.ensures (sym c.place_behind.ensures ∙ c.in-None.is))
    ∙ c.loop-part.invariant.0

pub goals_offset-loop-part-preserved : goal.goals_offset-loop-part-preserved
goals_offset-loop-part-preserved t c =
    let fits = c.ranges.place.fits in
    let low : c.loop-part.left < 2 ^ 32 = omega (arith, c.loop-part.invariant.1) in
    let behind = sym c.place_behind.ensures ∙ c.in-Some.is in
    let least = behind-least c.goal_count.result c.loop-part.left c.in-Some.behind behind in (
      sym (goal-behind c.args.numbers.now c.args.parts.now c.loop-part.part-index c.part-item.result c.loop-part.left c.goal_count.result c.in-Some.behind c.loop-part-test.true c.part-item.is low
          c.goal_count.ensures behind)
          ∙ c.loop-part.invariant.0,
      omega (arith, least, c.loop-part.invariant.1),
    )
