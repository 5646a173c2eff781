use Rattle.std.proofs.Common.{◌∙◌, ◌∷◌, [], ap, map}
use Rattle.std.proofs.lemmas.List.{map-append}
use Rattle.p3_resolve.specs.Numbers.{names_at}
use Rattle.p3_resolve.proofs.NumberLemmas.{all-none, all-more}
use Rattle.p3_resolve.proofs.numbers.number_headers.Goals as goal

pub loop-header-init : goal.loop-header-init
loop-header-init c = record { same = c.requires; numbers = all-none _ _ }

pub loop-header-preserved : goal.loop-header-preserved
loop-header-preserved c = record {
  same = c.in_ok-parameters.ensures.same;
  numbers = all-more _ _ _ _ _ _ c.args.headers.now c.loop-header.header-index c.header-item.result c.in_ok-parameters.parameters.items
      c.loop-header-test.true c.header-item.is c.in_ok-parameters.ensures.kept c.loop-header.invariant.numbers (c.in_ok-parameters.ensures.numbers ∙ ap (map names_at) c.items.ensures)
      (ap (map (λ one. one.items)) c.in_ok-push.ensures.items ∙ map-append (λ one. one.items) c.loop-header.numbers.items (c.in_ok-parameters.parameters ∷ []));
}
