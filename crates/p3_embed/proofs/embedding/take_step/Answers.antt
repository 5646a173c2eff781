use Rattle.std.proofs.Common.{ℕ, List, [], ◌∷◌, ap, arith, length}
use Rattle.std.proofs.lemmas.List.{length-append}
use Rattle.std.proofs.lemmas.Option.{slice_get_within}
use Rattle.p3_embed.proofs.TakenLaws.{goes_on, other_is_there, other_taken, others_of_step, step_taken}
use Rattle.p3_embed.proofs.embedding.take_step.Goals as goal

pub returns-in-Some : goal.returns-in-Some
returns-in-Some c =
    step_taken c.args.sought.now.task.now c.args.sought.now.weights.now c.args.sought.now.target.now c.args.sought.now.numbers.now c.requires.sought.able c.args.sought.now.actions c.requires.sought.actions c.args.at c.loop-place.walk c.loop-place.invariant c.requires.next
    c.in-Some.place c.in-Some.ensures.some c.take.new.walk c.in_ok-take.ensures

pub unreachable-requires : goal.unreachable-requires
unreachable-requires c =
    other_is_there c.args.sought.now.task.now c.args.sought.now.weights.now c.args.sought.now.target.now c.args.sought.now.numbers.now c.requires.sought.able c.args.sought.now.actions c.requires.sought.actions c.args.at c.loop-place.walk c.loop-place.invariant
    (others_of_step c.args.sought.now.task.now c.args.sought.now.weights.now c.args.sought.now.target.now c.args.sought.now.numbers.now c.requires.sought.able c.args.sought.now.actions c.requires.sought.actions c.args.at c.loop-place.walk c.loop-place.invariant c.requires.next c.in_default.ensures.none)
    c.in_default-fitting_other.ensures.none

pub take-requires-in-loop-place-clause-place : goal.take-requires-in-loop-place-clause-place
take-requires-in-loop-place-clause-place c = let fit = c.in-Some-fitting_other.ensures.some in slice_get_within c.args.sought.now.target.now.actions c.in-Some-fitting_other.place fit.action fit.at

pub loop-place-smaller : goal.loop-place-smaller
loop-place-smaller c =
    let less = goes_on c.args.sought.now.task.now c.args.sought.now.weights.now c.args.sought.now.target.now c.args.sought.now.numbers.now c.requires.sought.able c.args.sought.now.actions c.requires.sought.actions c.args.at c.loop-place.walk c.loop-place.invariant
    (others_of_step c.args.sought.now.task.now c.args.sought.now.weights.now c.args.sought.now.target.now c.args.sought.now.numbers.now c.requires.sought.able c.args.sought.now.actions c.requires.sought.actions c.args.at c.loop-place.walk c.loop-place.invariant c.requires.next c.in_default.ensures.none) in
    let longer = ap (λ (places : List ℕ). length places) c.in_ok-take-2.ensures.places in
    let counted = length-append c.loop-place.walk.places.items (c.in-Some-fitting_other.place ∷ []) in
    omega (arith, less, longer, counted)

pub loop-place-preserved : goal.loop-place-preserved
loop-place-preserved c =
    other_taken c.args.sought.now.task.now c.args.sought.now.weights.now c.args.sought.now.target.now c.args.sought.now.numbers.now c.requires.sought.able c.args.sought.now.actions c.requires.sought.actions c.args.at c.loop-place.walk c.loop-place.invariant
    (others_of_step c.args.sought.now.task.now c.args.sought.now.weights.now c.args.sought.now.target.now c.args.sought.now.numbers.now c.requires.sought.able c.args.sought.now.actions c.requires.sought.actions c.args.at c.loop-place.walk c.loop-place.invariant c.requires.next c.in_default.ensures.none)
    c.in-Some-fitting_other.place c.in-Some-fitting_other.ensures.some c.take-in-loop-place.new.walk c.in_ok-take-2.ensures
