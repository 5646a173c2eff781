use Rattle.std.proofs.Common.{◌∙◌, sym}
use Rattle.p3_limits.specs.Preferences.{goal_offsets, constraint_offsets}
use Rattle.p3_limits.proofs.PreferenceLaws.{constraint-counted}
use Rattle.p3_limits.proofs.PreferenceLemmas.{get-here, get-behind}
use Rattle.p3_limits.proofs.many.problem_offset.Goals as goal

pub returns-in-None : goal.returns-in-None
returns-in-None c =
    let X = c.args.numbered.now in
    c.constraint_offset.ensures
    ∙ sym (get-here (constraint_offsets X.numbers X.problem_constraints) (goal_offsets X.numbers X.goal) c.constraint_count.result c.args.place c.ranges.place.fits
    (c.constraint_count.ensures ∙ constraint-counted X.numbers X.problem_constraints) (sym c.place_behind.ensures ∙ c.in-None.is))

pub returns-in-Some : goal.returns-in-Some
returns-in-Some c =
    let X = c.args.numbered.now in
    c.goal_offset.ensures
    ∙ sym (get-behind (constraint_offsets X.numbers X.problem_constraints) (goal_offsets X.numbers X.goal) c.constraint_count.result c.args.place c.in-Some.left c.ranges.place.fits
    (c.constraint_count.ensures ∙ constraint-counted X.numbers X.problem_constraints) (sym c.place_behind.ensures ∙ c.in-Some.is))
