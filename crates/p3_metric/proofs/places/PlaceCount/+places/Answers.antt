use Rattle.std.proofs.Common.{◌≡◌, ◌∙◌, ◌+◌, ◌++◌, ◌∷◌, [], ap, sym, take}
use Rattle.std.specs.Prelude.{min, max}
use Rattle.std.proofs.lemmas.List.{take_more}
use Rattle.p3_metric.specs.Cut.{cut_most, cut_total}
use Rattle.p3_metric.proofs.CutLaws.{no_most, no_total, most_more, total_more}
use Rattle.p3_metric.proofs.places.PlaceCount.+places.Goals as goal

pub most_places-loop-part-init : goal.most_places-loop-part-init
most_places-loop-part-init t c = sym (no_most c.args.self.now.task.now)

pub all_places-loop-part-init : goal.all_places-loop-part-init
all_places-loop-part-init t c = sym (no_total c.args.self.now.task.now)

pub most_places-loop-part-preserved : goal.most_places-loop-part-preserved
most_places-loop-part-preserved t c =
    let parts = c.args.parts.now in let i = c.loop-part.part-index in let part = c.part-item.result in
    let T = c.args.self.now.task.now in
    let more : take (i + 1) parts ≡ take i parts ++ part ∷ [] = take_more parts i part c.loop-part-test.true ∙ ap (λ x. take i parts ++ x ∷ []) (sym c.part-item.is) in
    c.larger-most.ensures ∙ (λ j. max (c.loop-part.invariant j) (c.places.ensures j)) ∙ sym (most_more T (take i parts) part) ∙ ap (cut_most T) (sym more)

pub all_places-loop-part-preserved : goal.all_places-loop-part-preserved
all_places-loop-part-preserved t c =
    let parts = c.args.parts.now in let i = c.loop-part.part-index in let part = c.part-item.result in
    let T = c.args.self.now.task.now in
    let more : take (i + 1) parts ≡ take i parts ++ part ∷ [] = take_more parts i part c.loop-part-test.true ∙ ap (λ x. take i parts ++ x ∷ []) (sym c.part-item.is) in
    c.saturating_add-total.ensures ∙ (λ j. min (c.loop-part.invariant j + c.places.ensures j) 4294967295) ∙ sym (total_more T (take i parts) part) ∙ ap (cut_total T) (sym more)
