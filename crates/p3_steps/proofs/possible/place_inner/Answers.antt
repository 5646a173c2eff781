use Rattle.std.proofs.Common.{◌∙◌, ◌++◌, ◌∷◌, [], get_or, take, sym, ap}
use Rattle.p3_steps.proofs.CandidateLemmas.{choice-single}
use Rattle.p3_steps.proofs.possible.place_inner.Goals as goal

pub returns : goal.returns
returns c =
    c.in_ok-push.ensures.items
    ∙ (λ i. c.truncate.ensures.items i ++ (c.object_at.ensures ∙ ap (λ objects. get_or objects c.args.number 0) c.objects_of.ensures) i ∷ [])
    ∙ ap (λ more. take c.args.first c.args.slots.now.items ++ more) (sym (choice-single c.args.numbers.now c.args.ranges.now c.args.number c.in-len1.len_at_least c.in-len1.len_below))
