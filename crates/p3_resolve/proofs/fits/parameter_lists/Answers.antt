use Rattle.std.proofs.Common.{◌∙◌, ◌++◌, ap, map, sym}
use Rattle.p3_task.specs.declared.task.Header.{Header}
use Rattle.p3_resolve.specs.Numbers.{names_at}
use Rattle.p3_resolve.proofs.NumberLemmas.{both-numbered}
use Rattle.p3_resolve.proofs.fits.parameter_lists.Goals as goal

pub returns : goal.returns
returns c =
    both-numbered c.items.result.now c.items-2.result.now c.new-keys.result c.number_headers.new.keys c.number_headers-2.new.keys _ _ _
    (map (λ one. one.items) c.number_headers-2.new.numbers.items) (ap (map (λ one. one.items)) c.new-numbers.ensures.items)
    c.in_ok-number_headers.ensures.numbers c.in_ok-number_headers-2.ensures.numbers (sym c.in_ok-number_headers-2.ensures.same)
    ∙ (λ i. map (λ (header : Header). map names_at header.params) (c.items.ensures i ++ c.items-2.ensures i))
