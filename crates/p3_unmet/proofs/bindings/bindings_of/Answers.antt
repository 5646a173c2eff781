use Rattle.std.proofs.Common.{◌∙◌, ◌∷◌, [], ◌++◌, ◌<◌, length, sym, arith}
use Rattle.p3_scenes.specs.Lent.{lent_words}
use Rattle.p3_unmet.specs.Bindings.{paired_with}
use Rattle.p3_unmet.proofs.BindingLaws.{pairs-all, pairs-more}
use Rattle.p3_unmet.proofs.bindings.bindings_of.Goals as goal

pub loop-place-preserved : goal.loop-place-preserved
loop-place-preserved c =
    let words = c.items-variables.result.now in
    let objects = c.items-objects.result.now in
    let k = c.loop-place.place in
    let within : k < length words = omega arith in
    let inside : k < length objects = omega arith in
    c.in_ok-push.ensures.ok ∙ (λ i. c.loop-place.invariant i ++ c.in_ok-binding.ensures i ∷ []) ∙ sym (pairs-more words objects k c.index-variables-place.result within inside c.index-variables-place.is)

pub returns : goal.returns
returns c =
    c.loop-place.invariant ∙ pairs-all c.items-variables.result.now c.items-objects.result.now c.loop-place.place (omega arith)
    ∙ (λ i. paired_with (lent_words (c.items-variables.ensures i)) (c.items-objects.ensures i))
