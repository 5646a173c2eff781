use Rattle.std.proofs.Common.{◌≡◌, ◌∙◌, ap, sym, take, ◌+◌, ◌++◌, ◌∷◌, [], ◌||◌, ◌&&◌}
use Rattle.std.proofs.lemmas.List.{take_more}
use Rattle.std.specs.List.{list_any}
use Rattle.std.specs.Option.{option_or}
use Rattle.p3_metric.specs.Factors.{first_product_in, has_mention, have_two_mentions}
use Rattle.p3_metric.proofs.FactorLemmas.{any_more, two_more, first_more}
use Rattle.p3_metric.proofs.factors.+factors.Goals as goal

pub found_in_all-loop-part-preserved : goal.found_in_all-loop-part-preserved
found_in_all-loop-part-preserved t c =
    let done = take c.loop-part.part-index c.args.parts.now in
    let part = c.part-item.result in
    let more : take (c.loop-part.part-index + 1) c.args.parts.now ≡ done ++ part ∷ [] = take_more c.args.parts.now c.loop-part.part-index part c.loop-part-test.true ∙ ap (λ x. done ++ x ∷ []) (sym c.part-item.is) in
    record {
      mention = c.both-all.ensures.mention ∙ (λ i. c.loop-part.invariant.mention i || c.found_in-found.ensures.mention i) ∙ sym (any_more has_mention done part) ∙ ap (list_any has_mention) (sym more);
      product = c.both-all.ensures.product ∙ (λ i. option_or (c.loop-part.invariant.product i) (c.found_in-found.ensures.product i)) ∙ sym (first_more done part) ∙ ap first_product_in (sym more);
      two_mentions = (λ i. c.loop-part.invariant.two_mentions i || (c.loop-part.invariant.mention i && c.found_in-found.ensures.mention i)) ∙ sym (two_more done part) ∙ ap have_two_mentions (sym more);
    }
