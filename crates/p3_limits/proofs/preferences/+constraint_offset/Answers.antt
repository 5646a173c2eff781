use Rattle.std.proofs.Common.{◌≡◌, ◌∙◌, ◌<◌, ◌^◌, Some, None, sym, ap, arith}
use Rattle.std.specs.Prelude.{slice_get}
use Rattle.p3_limits.specs.Cuts.{cut_choices}
use Rattle.p3_limits.specs.Preferences.{constraint_offsets, constraint_count}
use Rattle.p3_limits.proofs.SizeFindLemmas.{behind-least, constraint-here, constraint-behind, constraint-each}
use Rattle.p3_limits.proofs.preferences.+constraint_offset.Goals as goal

pub constraint_offset-returns-in-Some : goal.constraint_offset-returns-in-Some
constraint_offset-returns-in-Some t c =
    let N = c.args.numbers.now in
    c.constraint_offset.ensures ∙ ap (λ body. slice_get (constraint_offsets N body) c.in-Some.inner) c.get-in-Some.ensures
    ∙ sym (constraint-each N c.args.constraint.now c.in-Each.ranges c.in-Each.body c.choice_count-choices.result c.constraint_count-count.result c.args.place (Some c.in-Some.inner) c.in-Each.is
    (c.choice_count-choices.ensures ∙ ap (cut_choices N) c.items-in-Each.ensures) (c.constraint_count-count.ensures ∙ ap (constraint_count N) c.get.ensures) c.ranges.place.fits
    (sym c.in-Some.is ∙ c.place_within.ensures))

pub constraint_offset-returns-in-None : goal.constraint_offset-returns-in-None
constraint_offset-returns-in-None t c =
    let N = c.args.numbers.now in
    sym (constraint-each N c.args.constraint.now c.in-Each.ranges c.in-Each.body c.choice_count-choices.result c.constraint_count-count.result c.args.place None c.in-Each.is
    (c.choice_count-choices.ensures ∙ ap (cut_choices N) c.items-in-Each.ensures) (c.constraint_count-count.ensures ∙ ap (constraint_count N) c.get.ensures) c.ranges.place.fits
    (sym c.in-None.is ∙ c.place_within.ensures))

pub constraints_offset-returns-in-None : goal.constraints_offset-returns-in-None
constraints_offset-returns-in-None t c =
    let fits = c.ranges.place.fits in
    let low : c.loop-part.left < 2 ^ 32 = omega (arith, c.loop-part.invariant.1) in
    c.constraint_offset.ensures
    ∙ sym (constraint-here c.args.numbers.now c.args.parts.now c.loop-part.part-index c.part-item.result c.loop-part.left c.constraint_count.result c.loop-part-test.true c.part-item.is low
    c.constraint_count.ensures (sym c.place_behind.ensures ∙ c.in-None.is))
    ∙ c.loop-part.invariant.0

pub constraints_offset-loop-part-preserved : goal.constraints_offset-loop-part-preserved
constraints_offset-loop-part-preserved t c =
    let fits = c.ranges.place.fits in
    let low : c.loop-part.left < 2 ^ 32 = omega (arith, c.loop-part.invariant.1) in
    let behind = sym c.place_behind.ensures ∙ c.in-Some.is in
    let least = behind-least c.constraint_count.result c.loop-part.left c.in-Some.behind behind in (
      sym (constraint-behind c.args.numbers.now c.args.parts.now c.loop-part.part-index c.part-item.result c.loop-part.left c.constraint_count.result c.in-Some.behind c.loop-part-test.true c.part-item.is low
          c.constraint_count.ensures behind)
          ∙ c.loop-part.invariant.0,
      omega (arith, least, c.loop-part.invariant.1),
    )
