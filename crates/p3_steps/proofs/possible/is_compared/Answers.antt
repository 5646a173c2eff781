use Rattle.std.proofs.Common.{◌∙◌, not, sym, ap}
use Rattle.p3_steps.specs.Possible.{condition_may}
use Rattle.p3_steps.proofs.EachLemmas.{on-same}
use Rattle.p3_steps.proofs.PossibleLemmas.{may-Equal, may-Not}
use Rattle.p3_steps.proofs.possible.is_compared.Goals as goal

pub returns-in-Equal : goal.returns-in-Equal
returns-in-Equal c =
    let slots = c.args.slots.now in
    let wish = c.args.wish in
    on-same c.equality_may.result wish
    (λ same N S whole. ap (λ one. condition_may N S whole slots one wish) c.in-Equal.is ∙ may-Equal N S whole slots c.in-Equal.left c.in-Equal.right wish ∙ sym c.equality_may.ensures ∙ same)

pub returns-in-Equal-get : goal.returns-in-Equal-get
returns-in-Equal-get c =
    let slots = c.args.slots.now in
    let wish = c.args.wish in
    on-same c.equality_may-in-Equal-get.result wish
    (λ same N S whole. ap (λ one. condition_may N S whole slots one wish) c.in-Not.is ∙ may-Not N S whole slots c.in-Not.part wish
    ∙ ap (λ one. condition_may N S whole slots one (not wish)) (sym c.get.ensures ∙ c.in-Equal-get.is)
    ∙ may-Equal N S whole slots c.in-Equal-get.left c.in-Equal-get.right (not wish) ∙ sym c.equality_may-in-Equal-get.ensures ∙ same)
