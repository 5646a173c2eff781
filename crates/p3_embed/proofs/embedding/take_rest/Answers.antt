use Rattle.std.proofs.Common.{◌∙◌, ap, arith, length, List, ◌∷◌, [], ℕ, refl, sym}
use Rattle.std.proofs.lemmas.List.{length-append}
use Rattle.std.proofs.lemmas.Option.{slice_get_within}
use Rattle.p3_embed.proofs.TakenLaws.{goes_on, other_is_there, other_taken, others_behind}
use Rattle.p3_embed.proofs.embedding.take_rest.Goals as goal

pub unreachable-requires : goal.unreachable-requires
unreachable-requires c =
    other_is_there c.args.sought.now.task.now c.args.sought.now.weights.now c.args.sought.now.target.now c.args.sought.now.numbers.now c.requires.sought.able c.args.sought.now.actions c.requires.sought.actions (length c.args.sought.now.numbers.now) c.loop-target.walk c.loop-target.invariant
    (others_behind c.args.sought.now.task.now c.args.sought.now.weights.now c.args.sought.now.target.now c.args.sought.now.numbers.now c.requires.sought.able c.args.sought.now.actions c.requires.sought.actions (length c.args.sought.now.numbers.now) c.loop-target.walk c.loop-target.invariant refl (sym c.eval.ensures ∙ c.loop-target-test.true))
    c.in_default.ensures.none

pub take-requires-clause-place : goal.take-requires-clause-place
take-requires-clause-place c = let fit = c.in-Some.ensures.some in slice_get_within c.args.sought.now.target.now.actions c.in-Some.place fit.action fit.at

pub loop-target-smaller : goal.loop-target-smaller
loop-target-smaller c =
    let less = goes_on c.args.sought.now.task.now c.args.sought.now.weights.now c.args.sought.now.target.now c.args.sought.now.numbers.now c.requires.sought.able c.args.sought.now.actions c.requires.sought.actions (length c.args.sought.now.numbers.now) c.loop-target.walk c.loop-target.invariant
    (others_behind c.args.sought.now.task.now c.args.sought.now.weights.now c.args.sought.now.target.now c.args.sought.now.numbers.now c.requires.sought.able c.args.sought.now.actions c.requires.sought.actions (length c.args.sought.now.numbers.now) c.loop-target.walk c.loop-target.invariant refl (sym c.eval.ensures ∙ c.loop-target-test.true)) in
    let longer = ap (λ (places : List ℕ). length places) c.in_ok-take.ensures.places in
    let counted = length-append c.loop-target.walk.places.items (c.in-Some.place ∷ []) in
    omega (arith, less, longer, counted)

pub loop-target-preserved : goal.loop-target-preserved
loop-target-preserved c =
    other_taken c.args.sought.now.task.now c.args.sought.now.weights.now c.args.sought.now.target.now c.args.sought.now.numbers.now c.requires.sought.able c.args.sought.now.actions c.requires.sought.actions (length c.args.sought.now.numbers.now) c.loop-target.walk c.loop-target.invariant
    (others_behind c.args.sought.now.task.now c.args.sought.now.weights.now c.args.sought.now.target.now c.args.sought.now.numbers.now c.requires.sought.able c.args.sought.now.actions c.requires.sought.actions (length c.args.sought.now.numbers.now) c.loop-target.walk c.loop-target.invariant refl (sym c.eval.ensures ∙ c.loop-target-test.true))
    c.in-Some.place c.in-Some.ensures.some c.take.new.walk c.in_ok-take.ensures
