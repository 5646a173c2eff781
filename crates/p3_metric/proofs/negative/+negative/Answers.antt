use Rattle.std.proofs.Common.{◌≡◌, ◌∙◌, ◌+◌, ◌++◌, ◌∷◌, [], ap, sym, take}
use Rattle.std.specs.Option.{option_or}
use Rattle.std.proofs.lemmas.List.{take_more}
use Rattle.p3_metric.specs.Signs.{negative_spot_in}
use Rattle.p3_metric.proofs.SignLaws.{none_negative, negative_more}
use Rattle.p3_metric.proofs.negative.+negative.Goals as goal

pub first_negative_in-loop-part-init : goal.first_negative_in-loop-part-init
first_negative_in-loop-part-init t c = sym (none_negative c.args.form.now c.args.direction)

pub first_negative_in-loop-part-preserved : goal.first_negative_in-loop-part-preserved
first_negative_in-loop-part-preserved t c =
    let parts = c.args.parts.now in let i = c.loop-part.part-index in let part = c.part-item.result in
    let more : take (i + 1) parts ≡ take i parts ++ part ∷ [] = take_more parts i part c.loop-part-test.true ∙ ap (λ x. take i parts ++ x ∷ []) (sym c.part-item.is) in
    c.or-found.ensures ∙ (λ j. option_or (c.loop-part.invariant j) (c.first_negative.ensures j)) ∙ sym (negative_more c.args.form.now c.args.direction (take i parts) part) ∙ ap (negative_spot_in c.args.form.now c.args.direction) (sym more)
